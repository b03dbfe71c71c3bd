-- Demand 3 holds of every list of calls on a new linked map, such as `new` makes. Assumes nothing.
use mathlib.Core.List.{List}
use Rattle.steps.specs.Call.{Call, Outcome}
use Rattle.steps.specs.Proper.{New}
use Rattle.steps.specs.Trace.{Kind, Trace}
use Rattle.steps.proofs.Obeys.{obeys, along_linked}
use Rattle.multimap.specs.declared.ListOrderedMultimap.{ListOrderedMultimap}
use Rattle.multimap.specs.WellLinked.{WellLinked}
use Rattle.multimap.specs.Links.{Connected, Indexed}
use Rattle.multimap.specs.Demand3.{Demand3}
use Rattle.multimap.proofs.Links.{connected, indexed}

module _ {Map : Type 0} (M : Kind Map) (of : Map → ListOrderedMultimap) (sound : (m : Map) → M.Linked m → WellLinked (of m)) where
  pub demand_3 : {cs : List Call} {m m' : Map} {os : List Outcome} (t : Trace M cs m os m') → M.Linked m → New (M.abs m) → Demand3 M of t
  demand_3 {cs} {m} {m'} {os} t l new =
      let o = obeys M t l new in
      record {
        obeys = o;
        connected = connected (of m') (sound m' o.linked);
        indexed = indexed (of m') (sound m' o.linked);
        connected_all = along_linked M (λ m. Connected (of m)) (λ m h. connected (of m) (sound m h)) t l;
        indexed_all = along_linked M (λ m. Indexed (of m)) (λ m h. indexed (of m) (sound m h)) t l;
      }
