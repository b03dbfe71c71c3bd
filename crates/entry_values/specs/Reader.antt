-- What an `EntryValues` has not given yet, and what its calls do to that.
use Rattle.std.specs.Prelude.{ℕ, ◌≡◌, ◌-◌, Bool, true, false, List, length, take, drop, Option, Some, None, slice_get, slice_range}
use Rattle.std.specs.Borrow.{Bor}
use Rattle.steps.specs.Call.{Answer, none, round}
use Rattle.entry_values.specs.declared.EntryValues.{EntryValues}

-- the part of a slice that get_all filled, where it answered `count`; the whole slice where that is shorter
abbrev pub filled_part : ℕ → List ℕ → List ℕ
filled_part count l = take count l

-- r refers to that part of s
pub record Filled (s : Bor (List ℕ)) (count : ℕ) (r : Bor (List ℕ)) : Type 0 where
  pub place : r.ref_ptr ≡ s.ref_ptr
  pub holds : r.now ≡ filled_part count s.now

-- the rounds that a reader has not given yet: those from the one at front up to the one before back, where the slice has them
abbrev pub remaining : EntryValues → List ℕ
remaining e = slice_range e.rounds.now e.front e.back

-- a new reader of the filled part of s: it has given nothing
pub record Fresh (s : Bor (List ℕ)) (count : ℕ) (e : EntryValues) : Type 0 where
  pub part : Filled s count e.rounds
  pub all : remaining e ≡ filled_part count s.now

-- a round, or none
abbrev pub or_none : Option ℕ → Answer
or_none None = none
or_none (Some v) = round v

-- What a call answers where l is not given yet, and what is not given after it. The mark false is `next`, at the front, and true is
-- `next_back`, at the back.
abbrev pub answer : Bool → List ℕ → Answer
answer false l = or_none (slice_get l 0)
answer true l = or_none (slice_get l (length l - 1))

abbrev pub rest : Bool → List ℕ → List ℕ
rest false l = drop 1 l
rest true l = take (length l - 1) l

-- the call with the mark b where l is not given yet: r is its answer, and l' what is not given after it
pub record Gave (b : Bool) (l : List ℕ) (r : Option ℕ) (l' : List ℕ) : Type 0 where
  pub says : or_none r ≡ answer b l
  pub leaves : l' ≡ rest b l

-- that call on the reader e, which is then e' and reads the same slice
pub record Stepped (b : Bool) (e : EntryValues) (r : Option ℕ) (e' : EntryValues) : Type 0 where
  pub gave : Gave b (remaining e) r (remaining e')
  pub same : e'.rounds ≡ e.rounds
