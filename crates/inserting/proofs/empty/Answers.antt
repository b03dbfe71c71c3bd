-- `inserting::empty` meets its contract. Assumes nothing.
use mathlib.Core.Path.{sym, ◌∙◌}
use Rattle.inserting.proofs.Emptying.{struck_one}
use Rattle.inserting.proofs.empty.Goals as goal

pub loop-preserved : goal.loop-preserved
loop-preserved c =
    rw (c.after-after.ensures, c.strike.ensures) (sym (struck_one c.size-end.result c.loop.counter c.loop.x c.loop.map c.loop-test.true) ∙ c.loop.invariant)
