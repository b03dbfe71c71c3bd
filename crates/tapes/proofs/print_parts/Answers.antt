-- `tapes::print_parts` meets its contract. Assumes nothing.
use Prim.Native.Nat.{ℕ}
use mathlib.Core.List.{List}
use mathlib.Core.Path.{ap, ◌∙◌}
use lib.ListN.{take}
use Rattle.tapes.specs.Parts.{part_of, rest_of, numbers_of, marks_of}
use Rattle.tapes.proofs.Holds.{kept_as}
use Rattle.tapes.proofs.Lists.{limits_of, run_same}
use Rattle.tapes.proofs.print_parts.Goals as goal

pub returns : goal.returns
returns c =
    let e2 = c.next_part.ensures.left in
    let e3 = c.next_part-2.ensures.left ∙ ap rest_of e2 in
    let e4 = c.next_part-3.ensures.left ∙ ap rest_of e3 in
    let e5 = c.next_part-4.ensures.left ∙ ap rest_of e4 in
    let e6 = c.next_part-5.ensures.left ∙ ap rest_of e5 in
    record {
      printed =
          kept_as c.print_run.ensures
          (run_same
          (limits_of c.read_numbers.ensures (ap numbers_of c.next_part.ensures.part))
          (c.numbers_in-calls.ensures ∙ ap (λ (l : List ℕ). take 57344 (numbers_of l)) (c.next_part-2.ensures.part ∙ ap part_of e2))
          (c.numbers_in-outs.ensures ∙ ap (λ (l : List ℕ). take 8192 (numbers_of l)) (c.next_part-3.ensures.part ∙ ap part_of e3))
          (c.numbers_in-outs2.ensures ∙ ap (λ (l : List ℕ). take 8192 (numbers_of l)) (c.next_part-4.ensures.part ∙ ap part_of e4))
          (c.marks_in-marks.ensures ∙ ap (λ (l : List ℕ). take 8192 (marks_of l)) (c.next_part-5.ensures.part ∙ ap part_of e5))
          (c.numbers_in-answers.ensures ∙ ap (λ (l : List ℕ). take 32768 (numbers_of l)) (c.next_part-6.ensures.part ∙ ap part_of e6)));
      left = c.next_part-6.ensures.left ∙ ap rest_of e6;
    }
