-- `tapes::rows::Page::put_rows` meets its contract. The loop's invariant: which bytes are still to come. Assumes nothing.
use mathlib.Core.Path.{◌≡◌, ◌∙◌}
use Rattle.std.proofs.Common.{rules}
use Rattle.tapes.specs.Printed.{separator}
use Rattle.tapes.proofs.Numbers.{rows_on, rows_done}
use Rattle.tapes.proofs.rows.Page.put_rows.Goals as goal
use Rattle.tapes.proofs.rows.Page.put_rows.Goals.{then-i-width-eq0, else-i-width-eq0}

pub loop-i-preserved : goal.loop-i-preserved
loop-i-preserved c =
    let a = c.args in
    let i = c.loop-i.i in
    let mark : c.if-i-width-eq0.put_after ≡ separator a.width i = elim c.if-i-width-eq0.branch [ then-i-width-eq0 w ↦ search rules | else-i-width-eq0 w ↦ search rules ] in
    let k = c.put_after.ensures in
    (k.same_slice ∙ c.loop-i.invariant.0, rows_on a.values.now i a.width _ c.loop-i-test.true mark c.loop-i.invariant.1 k.held)

pub returns : goal.returns
returns c = let a = c.args in record { same_slice = c.loop-i.invariant.0; held = rows_done a.values.now c.loop-i.i a.width c.loop-i-test.false c.loop-i.invariant.1 }
