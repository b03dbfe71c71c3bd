-- Demand 3 of document 01: one claim about every list of calls as a whole. proofs/Demand3.antt proves it.
use Rattle.std.specs.Prelude.{List}
use Rattle.steps.specs.Call.{Call, Outcome}
use Rattle.steps.specs.Trace.{Kind, Trace, Along, Obeys}
use Rattle.multimap.specs.declared.ListOrderedMultimap.{ListOrderedMultimap}
use Rattle.multimap.specs.Links.{Connected, Indexed}

-- t is a list of calls on linked maps, each call on the map that the one before gave back; `of` gives a map's arrays. Obeys (crate steps) has
-- the answers, refusals and slices, P, K and T of the steps run from their own empty state, well-linkedness, the exact refusal by 1, the
-- equation of rounds, that a refused call gives back its very map, and the places right after a pack_to. Here the links from both ends and the
-- index are added, after each call and at the end.
module _ {Map : Type 0} (M : Kind Map) (of : Map → ListOrderedMultimap) where
  pub record Demand3 {cs : List Call} {m m' : Map} {os : List Outcome} (t : Trace M cs m os m') : Type 0 where
    pub obeys : Obeys M t
    pub connected : Connected (of m')
    pub indexed : Indexed (of m')
    pub connected_all : Along M (λ c m o m'. Connected (of m')) t
    pub indexed_all : Along M (λ c m o m'. Indexed (of m')) t
