-- What a line of the calls program prints, and the map after it.
use Rattle.std.specs.Prelude.{ℕ, ◌<◌, ◌≤◌, ◌≡◌, true, List, [], ◌∷◌, ◌++◌, length}
use Rattle.steps.specs.State.{State}
use Rattle.steps.specs.Step.{over}
use Rattle.multimap.specs.Map.{state_of}
use Rattle.multimap.specs.WellLinked.{WellLinked}
use Rattle.multimap.specs.declared.ListOrderedMultimap.{ListOrderedMultimap}
use Rattle.parsing.specs.Line.{line_of}
use Rattle.printing.specs.Said.{Roomy, max_printed}
use Rattle.line_calls.specs.Answer.{answer_of, idle}

-- the bytes that a line prints, with their line end
abbrev pub printed : List ℕ → State → List ℕ
printed line s = (answer_of (line_of line) s).0 ++ (10 ∷ [])

-- a line is answered: the n printed bytes are at the front of `out`, the others are kept; the map m' that is left is well-linked and has the
-- state after the line
pub record Answered (line : List ℕ) (m : ListOrderedMultimap) (was out : List ℕ) (m' : ListOrderedMultimap) (n : ℕ) : Type 0 where
  pub bytes : out ≡ over (printed line (state_of m)) was
  pub count : n ≡ length (printed line (state_of m))
  pub state : state_of m' ≡ (answer_of (line_of line) (state_of m)).1
  pub linked : WellLinked m'
  pub same : idle (line_of line) (state_of m) ≡ true → m' ≡ m

-- nothing is done
pub record Unanswered (m : ListOrderedMultimap) (was out : List ℕ) (m' : ListOrderedMultimap) (n : ℕ) : Type 0 where
  pub kept : out ≡ was
  pub none : n ≡ 0
  pub same : m' ≡ m

-- a line is answered where there is room for any answer, on a well-linked map; on no map are more bytes printed than the longest line has
pub record Answers (line : List ℕ) (m : ListOrderedMultimap) (was out : List ℕ) (m' : ListOrderedMultimap) (n : ℕ) : Type 0 where
  pub most : n ≤ max_printed
  pub answered : Roomy was → WellLinked m → Answered line m was out m' n
  pub unanswered : length was < max_printed → Unanswered m was out m' n
