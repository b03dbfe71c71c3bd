-- `removing::remove` meets its contract. Assumes nothing.
use mathlib.Core.Path.{sym, ◌∙◌}
use Rattle.removing.proofs.Expels.{does_none, does_remove}
use Rattle.removing.proofs.remove.Goals as goal

pub returns-in_default : goal.returns-in_default
returns-in_default c = λ wl. does_none c.args.map.now wl c.args.k _ _ (sym c.find.ensures ∙ c.in_default.is)

pub returns : goal.returns
returns c =
    λ wl. does_remove c.args.map.now wl c.args.k _ _ _ (sym c.find.ensures ∙ c.in-At.is) c.head.ensures
    c.round-round.ensures _ c.remove_record.ensures
