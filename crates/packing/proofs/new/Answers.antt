-- `packing::new` meets its contract. Assumes nothing.
use mathlib.Core.Path.{sym, ◌∙◌}
use Rattle.packing.proofs.Clears.{makes_none, makes_new}
use Rattle.packing.proofs.new.Goals as goal

pub returns-then-are_too_high : goal.returns-then-are_too_high
returns-then-are_too_high c = makes_none _ c.reset.ensures (sym c.are_too_high.ensures ∙ c.if-are_too_high.true)

pub returns : goal.returns
returns c = makes_new _ c.reset-2.ensures (sym c.are_too_high.ensures ∙ c.if-are_too_high.false)
