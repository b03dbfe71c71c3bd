-- A refusal that `?` hands on, of a call whose answer has another type. Assumes nothing.
use mathlib.Core.Path.{◌≡◌}
use Rattle.std.specs.Prelude.{Result, IsErrAnd}
use Rattle.std.proofs.lemmas.Result.{err_from_is_err_and}
use Rattle.steps.specs.Call as C
use Rattle.steps.specs.Trace.{Kind, Does}
use Rattle.answers.specs.Answers.{answered, number_of}
use Rattle.answers.specs.declared.Refusal.{Refusal}

-- what the call does where it is refused by e, where r is what `?` gave of e
pub handed_on : {Map : Type 0} {M : Kind Map} {c : C.Call} {m m' : Map} {s : C.Lent} {A : Type 0} (f : A → C.Answer)
    (r : Result A Refusal) (e : Refusal) → IsErrAnd r (λ y. y ≡ e) → Does M c m (record { answer = C.refused (number_of e); slices = s }) m'
    → Does M c m (record { answer = answered f r; slices = s }) m'
handed_on f r e i d = let p = err_from_is_err_and r i in rw (p.1, p.2) d
