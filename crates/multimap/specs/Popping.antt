-- A round leaves a well-linked map: what is left, and what a pop answers.
use Rattle.std.specs.Prelude.{ℕ, ◌≡◌, Bool, true, false, not, List, map}
use Rattle.steps.specs.State.{Pair, has, remove_pair}
use Rattle.steps.specs.Call.{Call, pop_front, pop_back, Answer, popped}
use Rattle.links.specs.Route.{without}
use Rattle.links.specs.Places.{order}
use Rattle.multimap.specs.Map.{pair_at, rounds_of, state_of}
use Rattle.multimap.specs.WellLinked.{WellLinked}
use Rattle.multimap.specs.declared.ListOrderedMultimap.{ListOrderedMultimap}

-- the pop from the front, or from the back
abbrev pub pop_of : Bool → Call
pop_of true = pop_front
pop_of false = pop_back

-- the pairs, without that of the round in the place x
abbrev pub rest : ListOrderedMultimap → ℕ → List Pair
rest m x = map (pair_at m) (without x (order (rounds_of m)))

-- r is m without the round in the place x, and a tells its member, the round and whether the member left
pub record PoppedAt (m : ListOrderedMultimap) (x : ℕ) (a : Answer) (r : ListOrderedMultimap) : Type 0 where
  pub answer : a ≡ popped (pair_at m x).key (pair_at m x).value (not (has (pair_at m x).key (rest m x)))
  pub state : state_of r ≡ remove_pair (pair_at m x) (rest m x) (state_of m)
  pub linked : WellLinked r

-- the pair in the place x has left P, the others keep their places and their order, and its member has left K where no pair of it remains
pub record PairGone (a : ListOrderedMultimap) (x : ℕ) (gone : Bool) (r : ListOrderedMultimap) : Type 0 where
  pub linked : WellLinked r
  pub state : state_of r ≡ remove_pair (pair_at a x) (rest a x) (state_of a)
  pub left : order (rounds_of r) ≡ without x (order (rounds_of a))
  pub same : pair_at r ≡ pair_at a
  pub key_index : r.key_index ≡ a.key_index
  pub gone_is : gone ≡ not (has (pair_at a x).key (rest a x))
