-- The answer of the steps for what a call answers, and the number of a refusal.
use Rattle.std.specs.Prelude.{ℕ, Option, None, Some, Result, Ok, Err}
use Rattle.steps.specs.Call as C
use Rattle.answers.specs.declared.Answer.{Answer}
use Rattle.answers.specs.declared.Answer.TheVariants.{Nothing, Done, Round, Count, Present, Popped, Occupied, Vacant}
use Rattle.answers.specs.declared.Entry.{Entry}
use Rattle.answers.specs.declared.Entry.TheVariants as E
use Rattle.answers.specs.declared.Popped as P
use Rattle.answers.specs.declared.Refusal.{Refusal}
use Rattle.answers.specs.declared.Refusal.TheVariants as R

abbrev pub number_of : Refusal → ℕ
number_of R.Full = 1
number_of R.Crowded = 2
number_of R.Short = 3
number_of R.MembersBelow = 4
number_of R.RoundsBelow = 5
number_of R.Above = 6
number_of R.MarksCount = 7
number_of R.MarkValue = 8
number_of R.Absent = 9
number_of R.Present = 10
number_of R.TooShort = 11
number_of R.TooMany = 12
number_of R.WrongLength = 13
number_of R.WrongMembers = 14
number_of R.LimitsAbove = 15
number_of R.NoPoster = 16

abbrev pub answer_of : Answer → C.Answer
answer_of Nothing = C.none
answer_of Done = C.done
answer_of (Round v) = C.round v
answer_of (Count n) = C.count n
answer_of (Present b) = C.present b
answer_of (Popped p) = C.popped p.member p.round p.gone
answer_of (Occupied n) = C.occupied n
answer_of (Vacant k) = C.vacant k

-- the answer of what a call gives: nothing, a round or none, what was popped or none, an entry
abbrev pub done_of : Unit {0} → C.Answer
done_of d = C.done

abbrev pub round_of : Option ℕ → C.Answer
round_of None = C.none
round_of (Some v) = C.round v

abbrev pub popped_of : Option P.Popped → C.Answer
popped_of None = C.none
popped_of (Some p) = C.popped p.member p.round p.gone

abbrev pub entry_of : Entry → C.Answer
entry_of (E.Occupied n) = C.occupied n
entry_of (E.Vacant k) = C.vacant k

-- the answer of a call that may be refused, where g numbers the refusals
abbrev pub told : {A R : Type 0} → (A → C.Answer) → (R → ℕ) → Result A R → C.Answer
told f g (Ok x) = f x
told f g (Err r) = C.refused (g r)

-- that of a call of a map
abbrev pub answered : {A : Type 0} → (A → C.Answer) → Result A Refusal → C.Answer
answered f o = told f number_of o

-- the same where a refusal is a number
abbrev pub numbered : Result Answer ℕ → C.Answer
numbered o = told answer_of (λ n. n) o
