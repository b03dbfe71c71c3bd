-- What the call of a line did, and how its answer is printed.
use Rattle.std.specs.Prelude.{ℕ, ◌<◌, ◌≡◌, true, List}
use Rattle.steps.specs.Call as C
use Rattle.multimap.specs.Map.{state_of}
use Rattle.multimap.specs.WellLinked.{WellLinked}
use Rattle.multimap.specs.declared.ListOrderedMultimap.{ListOrderedMultimap}
use Rattle.reading.specs.Reads as R
use Rattle.parsing.specs.Line.{Line, lists, members}
use Rattle.printing.specs.Said.{Prints, Roomy, max_printed}
use Rattle.line_calls.specs.Answer.{answer_of, blank, idle}

-- the text of the line l on the map m, of n bytes, and the map m' after it
pub record Replied (l : Line) (m : ListOrderedMultimap) (was out : List ℕ) (m' : ListOrderedMultimap) (n : ℕ) : Type 0 where
  pub prints : Prints was (answer_of l (state_of m)).0 out n
  pub state : state_of m' ≡ (answer_of l (state_of m)).1
  pub linked : WellLinked m'
  pub same : idle l (state_of m) ≡ true → m' ≡ m

-- so of every well-linked map; of any other no more than that the text and its line end are at most as long as any printed line
pub record Replies (l : Line) (m : ListOrderedMultimap) (was out : List ℕ) (m' : ListOrderedMultimap) (n : ℕ) : Type 0 where
  pub short : Roomy was → n < max_printed
  pub replied : WellLinked m → Replied l m was out m' n

-- α has the arrays of m that the line reads
abbrev pub Seen : Line → ListOrderedMultimap → ListOrderedMultimap → Type 0
Seen lists m α = R.Seen (C.iter blank blank) m α
Seen members m α = R.Seen (C.keys blank) m α
Seen l m α = m ≡ α

-- what a line that only reads does, of every map that has them
pub record Shows (l : Line) (m : ListOrderedMultimap) (was out : List ℕ) (n : ℕ) : Type 0 where
  pub shows : (α : ListOrderedMultimap) → Seen l m α → Replies l α was out α n
