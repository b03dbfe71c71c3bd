-- What writing and reading an image promise. Where the answer is told by four numbers, `Writes` and `Restores` say so.
use Rattle.std.specs.Prelude.{ℕ, ◌≡◌, List}
use Rattle.steps.specs.State.{Limits}
use Rattle.steps.specs.Call.{Answer}
use Rattle.steps.specs.Coded.{coded}
use Rattle.steps.specs.Step.{write}
use Rattle.multimap.specs.declared.ListOrderedMultimap.{ListOrderedMultimap}
use Rattle.multimap.specs.Map.{state_of}
use Rattle.multimap.specs.WellLinked.{WellLinked}
use Rattle.image.specs.Image.{write_of, read_of}

-- the image of m is written to `out`, which then holds out', as the definition says; the answer's numbers are `ans`
pub record Writes (m : ListOrderedMultimap) (out out' ans : List ℕ) : Type 0 where
  pub answer : Answer
  pub writes : write answer out' ≡ write_of (state_of m) out
  pub ans_is : ans ≡ coded answer

-- α has the arrays of m that writing an image reads
abbrev pub Seen : ListOrderedMultimap → ListOrderedMultimap → Type 0
Seen m α =
    (m.keys ≡ α.keys)
    × (m.values ≡ α.values)
    × (m.key_index ≡ α.key_index)
    × (m.next_value ≡ α.next_value)
    × (m.members ≡ α.members)
    × (m.rounds ≡ α.rounds)

-- the image of every well-linked map that has them is written to `out`, which then holds out', as the definition says: the answer is a
abbrev pub Imaged : ListOrderedMultimap → (out : List ℕ) → Answer → (out' : List ℕ) → Type 0
Imaged m out a out' = (α : ListOrderedMultimap) → Seen m α → WellLinked α → write a out' ≡ write_of (state_of α) out

-- so; the answer's numbers are `ans`
abbrev pub ImagedTold : ListOrderedMultimap → (out out' ans : List ℕ) → Type 0
ImagedTold m out out' ans = (α : ListOrderedMultimap) → Seen m α → WellLinked α → Writes α out out' ans

-- the bytes s are read into the limits l as the definition says: the answer, and a well-linked map that stands for the state
pub record Reads (l : Limits) (s : List ℕ) (a : Answer) (m : ListOrderedMultimap) : Type 0 where
  pub answer : a ≡ (read_of l s).0
  pub state : state_of m ≡ (read_of l s).1
  pub linked : WellLinked m

-- so, as the map m; the answer's numbers are `ans`
pub record Restores (l : Limits) (s : List ℕ) (m : ListOrderedMultimap) (ans : List ℕ) : Type 0 where
  pub answer : Answer
  pub reads : Reads l s answer m
  pub ans_is : ans ≡ coded answer
