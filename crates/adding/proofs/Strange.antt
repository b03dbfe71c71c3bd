-- The exit of a call that names no poster: the error of `adding::check_poster` is its refusal. Assumes nothing.
use mathlib.Core.Path.{◌≡◌, refl}
use mathlib.Core.Bool.{true}
use Rattle.std.specs.Prelude.{Result, Err, IsErrAnd}
use Rattle.steps.specs.Call.{Call, Answer, view, posts, lent}
use Rattle.steps.specs.Trace.{Does}
use Rattle.steps.proofs.Doing.{does_strange}
use Rattle.answers.specs.Answers.{answered}
use Rattle.answers.specs.declared.Refusal.{Refusal}
use Rattle.answers.proofs.Handed.{handed_on}
use Rattle.multimap.specs.declared.ListOrderedMultimap.{ListOrderedMultimap}
use Rattle.multimap.specs.WellLinked.{WellLinked, linked}
use Rattle.adding.specs.Admitted.{Posting}

pub strange : (c : Call) (a : ListOrderedMultimap) {A : Type 0} (f : A → Answer) (r : Result A Refusal) (e : Refusal) → posts (view c).number ≡ true
    → WellLinked a → Posting (view c).poster (Err e) → IsErrAnd r (λ y. y ≡ e) → Does linked c a (record { answer = answered f r; slices = lent c }) a
strange c a f r e p g h i = handed_on f r e i (rw h.1 (does_strange linked c a p g refl h.0))
