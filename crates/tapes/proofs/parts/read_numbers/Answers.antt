-- `tapes::parts::read_numbers` meets its contract. The loop's invariant: which numbers are still to come. Assumes nothing.
use mathlib.Core.Path.{sym, ap, ◌∙◌}
use Rattle.tapes.specs.Parts.{grown}
use lib.ListN.{get_or}
use Rattle.tapes.proofs.Numbers.{as_list, on_digit, on_other, on_end}
use Rattle.tapes.proofs.parts.read_numbers.Goals as goal
use Rattle.tapes.proofs.parts.read_numbers.Goals.{then-is_ascii_digit, else-is_ascii_digit}

pub loop-b-preserved : goal.loop-b-preserved
loop-b-preserved c =
    let s = c.args.s.now in
    let i = c.loop-b.b-index in
    let begun = c.loop-b.begun in
    let inv = c.loop-b.invariant in
    let is = sym c.is_ascii_digit.ensures.value in
    elim c.if-is_ascii_digit.branch [
      | then-is_ascii_digit w ↦
          rw (w.numbers-is, w.count-is, w.begun-is)
          (on_digit s i begun w.grow.result c.loop-b-test.true (is ∙ w.if-is_ascii_digit.true) (w.grow.ensures ∙ ap (λ k. grown k (get_or s i 0)) w.unwrap_or.ensures) inv)
      | else-is_ascii_digit w ↦
          rw (w.numbers-is, w.count-is, w.begun-is)
          (on_other s i begun w.as_slice.result.now c.loop-b-test.true (is ∙ w.if-is_ascii_digit.false) (as_list begun w.as_slice.result.now w.as_slice.ensures) inv w.hold-count.ensures)
    ]

pub returns : goal.returns
returns c =
    let begun = c.loop-b.begun in
    let l = c.as_slice-2.result.now in
    on_end c.args.s.now c.loop-b.b-index begun l c.loop-b-test.false (as_list begun l c.as_slice-2.ensures) c.loop-b.invariant c.hold.ensures
