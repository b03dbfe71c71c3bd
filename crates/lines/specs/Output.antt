-- What lines print one after another, and the map after them.
use Rattle.std.specs.Prelude.{ℕ, ◌≤◌, ◌≡◌, List, [], ◌∷◌, ◌++◌, length}
use Rattle.steps.specs.State.{State}
use Rattle.steps.specs.Step.{over}
use Rattle.multimap.specs.Map.{state_of}
use Rattle.multimap.specs.WellLinked.{WellLinked}
use Rattle.multimap.specs.declared.ListOrderedMultimap.{ListOrderedMultimap}
use Rattle.parsing.specs.Line.{line_of}
use Rattle.line_calls.specs.Answer.{answer_of}
use Rattle.one_line.specs.Answers.{printed}

-- the state after lines, each on the state that the one before left
unfoldable pub after : List (List ℕ) → State → State
after [] s = s
after (l ∷ ls) s = after ls (answer_of (line_of l) s).1

-- what they print
unfoldable pub output_of : List (List ℕ) → State → List ℕ
output_of [] s = []
output_of (l ∷ ls) s = printed l s ++ output_of ls (answer_of (line_of l) s).1

-- the lines are answered: the n printed bytes are at the front of `out`, the others are kept; the map m' that is left is well-linked and has
-- the state after the lines; without a line it is the very map
pub record AnsweredAll (ls : List (List ℕ)) (m : ListOrderedMultimap) (was out : List ℕ) (m' : ListOrderedMultimap) (n : ℕ) : Type 0 where
  pub bytes : out ≡ over (output_of ls (state_of m)) was
  pub count : n ≡ length (output_of ls (state_of m))
  pub state : state_of m' ≡ after ls (state_of m)
  pub linked : WellLinked m'
  pub same : ls ≡ [] → m' ≡ m

-- so of every well-linked map; of any other no more than that the printed bytes have room, and that `out` keeps its length
pub record Outputs (ls : List (List ℕ)) (m : ListOrderedMultimap) (was out : List ℕ) (m' : ListOrderedMultimap) (n : ℕ) : Type 0 where
  pub room : n ≤ length was
  pub long : length out ≡ length was
  pub answered : WellLinked m → AnsweredAll ls m was out m' n
