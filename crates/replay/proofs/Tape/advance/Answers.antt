-- `replay::Tape::advance` meets its contract, by the laws of proofs/Places.antt. Assumes nothing.
use mathlib.Core.Path.{refl, sym, ◌∙◌}
use Prim.Native.Nat.{◌*◌, ◌-◌}
use native.Mathlib.Omega.{arith}
use Rattle.replay.proofs.Places.{room_at, stops_short, stops_not, ready, goes_on, reach}
use Rattle.replay.proofs.Tape.advance.Goals as goal

pub returns-in_err-h : goal.returns-in_err-h
returns-in_err-h c = rw c.from_residual.ensures (stops_short c.args.p c.args.self.now c.args.map.now c.in_err-h.ensures)

pub returns-then-not-fits : goal.returns-then-not-fits
returns-then-not-fits c = stops_not c.args.p c.args.self.now _ _ c.in_ok-h.ensures (sym c.fits.ensures ∙ c.if-not-fits.true)

pub after-q-requires : goal.after-q-requires
after-q-requires c = omega (arith, room_at c.args.p c.in_ok-h.h c.args.self.now (sym c.fits.ensures ∙ c.if-not-fits.false), c.requires)

pub slice_bounds-turn-end : goal.slice_bounds-turn-end
slice_bounds-turn-end c = omega (arith, reach c.requires (sym c.fits.ensures ∙ c.if-not-fits.false) c.after-q.ensures)

pub slice_bounds-turn-end-2 : goal.slice_bounds-turn-end-2
slice_bounds-turn-end-2 c = omega (arith, reach c.requires (sym c.fits.ensures ∙ c.if-not-fits.false) c.after-q.ensures)

pub slice_bounds-turn-end-3 : goal.slice_bounds-turn-end-3
slice_bounds-turn-end-3 c = omega (arith, reach c.requires (sym c.fits.ensures ∙ c.if-not-fits.false) c.after-q.ensures)

pub slice_bounds-turn-end-4 : goal.slice_bounds-turn-end-4
slice_bounds-turn-end-4 c = omega (arith, reach c.requires (sym c.fits.ensures ∙ c.if-not-fits.false) c.after-q.ensures)

pub turn-requires : goal.turn-requires
turn-requires c =
    let p = c.args.p in
    let q = c.after-q.result in
    ready p c.args.self.now c.args.map.now _ c.in_ok-h.ensures (sym c.fits.ensures ∙ c.if-not-fits.false)
    (q.out - p.out) (q.out2 - p.out2) (q.mark - p.mark) ((4 * q.ran) - (4 * p.ran)) (omega (arith, c.after-q.ensures)) (omega (arith, c.after-q.ensures)) (omega (arith, c.after-q.ensures)) (omega (arith, c.after-q.ensures))

pub returns : goal.returns
returns c =
    goes_on c.args.p c.args.self.now _ _ c.in_ok-h.ensures (sym c.fits.ensures ∙ c.if-not-fits.false)
    _ _ _ _ (omega (arith, c.after-q.ensures)) (omega (arith, c.after-q.ensures)) (omega (arith, c.after-q.ensures)) (omega (arith, c.after-q.ensures))
    c.after-q.result _ _ _ _ _ c.after-q.ensures c.requires (record { calls = refl; marks = refl; outs = refl; outs2 = refl; answers = refl }) refl refl refl c.turn.auto.out c.turn.auto.out2 c.turn.auto.ans c.turn.ensures
