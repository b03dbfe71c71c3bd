-- A new map (document 02, No. 1): what is made, and what is answered.
use Rattle.std.specs.Prelude.{ℕ, ◌≡◌, List}
use Rattle.steps.specs.State.{Limits}
use Rattle.steps.specs.Call.{Answer}
use Rattle.steps.specs.Coded.{coded}
use Rattle.steps.specs.Step.{make_of}
use Rattle.multimap.specs.declared.ListOrderedMultimap.{ListOrderedMultimap}
use Rattle.multimap.specs.Map.{state_of}
use Rattle.multimap.specs.WellLinked.{WellLinked}

-- m is well-linked and stands for what is made with the limits l, and a is the answer
pub record Makes (l : Limits) (a : Answer) (m : ListOrderedMultimap) : Type 0 where
  pub answer : a ≡ (make_of l).0
  pub state : state_of m ≡ (make_of l).1
  pub linked : WellLinked m

-- so, with the answer's numbers
pub record Made (l : Limits) (m : ListOrderedMultimap) (ans : List ℕ) : Type 0 where
  pub answer : Answer
  pub makes : Makes l answer m
  pub ans_is : ans ≡ coded answer
