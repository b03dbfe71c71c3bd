-- `packing::seat` meets its contract, by the laws of proofs/Seats.antt. Assumes nothing.
use mathlib.Core.Path.{refl, sym, ◌∙◌}
use Rattle.packing.proofs.Seats.{seats_more, seats_none}
use Rattle.packing.proofs.seat.Goals as goal

pub returns-in_default : goal.returns-in_default
returns-in_default c =
    λ s a.
    absurd (seats_none c.args.numbers.now c.loop-k.k-index c.loop-k.map (c.loop-k.invariant s a) a c.loop-k-test.true
    refl _ _ _ (sym c.find.ensures ∙ c.in_default.is))

pub loop-k-preserved : goal.loop-k-preserved
loop-k-preserved c =
    λ s a.
    seats_more c.args.numbers.now c.loop-k.k-index c.loop-k.map (c.loop-k.invariant s a) a c.loop-k-test.true
    refl _ _ (sym c.find.ensures ∙ c.in-Absent.is) c.join.ensures.1
