-- `tapes::parts::read_marks` meets its contract. The loop's invariant: the marks so far are held. Assumes nothing.
use mathlib.Core.Path.{sym, ◌∙◌}
use native.Mathlib.Omega.{arith}
use Rattle.tapes.specs.Parts.{marks_of}
use Rattle.tapes.proofs.Holds.{held_none, held_join, held_as}
use Rattle.tapes.proofs.Numbers.{mark_more, no_mark}
use Rattle.tapes.proofs.parts.read_marks.Goals as goal
use Rattle.tapes.proofs.parts.read_marks.Goals.{then-is_ascii_digit, else-is_ascii_digit}

pub loop-b-init : goal.loop-b-init
unfolding marks_of
loop-b-init c = held_none _ _ (omega arith)

pub loop-b-preserved : goal.loop-b-preserved
loop-b-preserved c =
    let s = c.args.s.now in
    let i = c.loop-b.b-index in
    let t = c.loop-b-test.true in
    let inv = c.loop-b.invariant in
    let is = sym c.is_ascii_digit.ensures.value in
    elim c.if-is_ascii_digit.branch [
      | then-is_ascii_digit w ↦ rw (w.marks-is, w.count-is) (held_as (held_join inv w.hold-count.ensures) (mark_more s i t (is ∙ w.if-is_ascii_digit.true)))
      | else-is_ascii_digit w ↦ rw (w.marks-is, w.count-is) (held_as inv (no_mark s i t (is ∙ w.if-is_ascii_digit.false)))
    ]
