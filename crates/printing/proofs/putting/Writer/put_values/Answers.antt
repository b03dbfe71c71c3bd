-- `printing::putting::Writer::put_values` meets its contract. The loop's invariant: what the numbers so far come to is written. Assumes nothing.
use native.Mathlib.Omega.{arith}
use lib.ListN.{take, length-take}
use Rattle.printing.specs.Text.{spaced, values}
use Rattle.printing.proofs.Puts.{wrote_none, wrote_join, wrote_as, wrote_long}
use Rattle.printing.proofs.Runs.{values_long, piece_more}
use Rattle.printing.proofs.putting.Writer.put_values.Goals as goal

pub loop-value-init : goal.loop-value-init
unfolding values
loop-value-init c = wrote_none _

pub put_after-requires : goal.put_after-requires
put_after-requires c =
    let vs = c.args.values.now in
    let i = c.loop-value.value-index in
    let w = c.loop-value.invariant in
    omega (arith, c.requires, c.loop-value-test.true, w.put.next, wrote_long w, values_long (take i vs), length-take i vs)

pub loop-value-preserved : goal.loop-value-preserved
unfolding values
loop-value-preserved c =
    wrote_as (wrote_join c.loop-value.invariant c.put_after.ensures) (piece_more spaced c.args.values.now c.loop-value.value-index 0 c.loop-value-test.true)
