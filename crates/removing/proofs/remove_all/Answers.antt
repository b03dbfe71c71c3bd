-- `removing::remove_all` meets its contract. Assumes nothing.
use mathlib.Core.Path.{refl, sym, ◌∙◌}
use Rattle.steps.specs.Call.{count}
use Rattle.answers.proofs.Handed.{handed_on}
use Rattle.removing.proofs.WritesOut.{does_all_none, does_short, does_all}
use Rattle.removing.proofs.remove_all.Goals as goal

pub returns-in_default : goal.returns-in_default
returns-in_default c =
    λ wl. does_all_none c.args.map.now wl c.args.k c.args.out.now _ _ (sym c.find.ensures ∙ c.in_default.is)

pub returns-in_err-n : goal.returns-in_err-n
returns-in_err-n c =
    λ wl. handed_on count _ _ c.from_residual.ensures.1
    (does_short c.args.map.now wl c.args.k c.args.out.now _ _ _ (sym c.find.ensures ∙ c.in-At.is)
    c.head-head.ensures c.size-size.ensures c.in_err-n.ensures _ refl)

pub returns : goal.returns
returns c =
    λ wl. does_all c.args.map.now wl c.args.k c.args.out.now _ _ _ (sym c.find.ensures ∙ c.in-At.is)
    c.head-head.ensures c.size-size.ensures c.in_ok-n.ensures _ refl _ c.remove_record.ensures
