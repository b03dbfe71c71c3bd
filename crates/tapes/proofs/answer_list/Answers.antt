-- `tapes::answer_list` meets its contract. Assumes nothing.
use Prim.Native.Nat.{ℕ}
use mathlib.Core.List.{List, ◌++◌}
use mathlib.Core.Path.{ap, ◌∙◌}
use Rattle.tapes.specs.Parts.{left_after}
use Rattle.tapes.specs.Printed.{parts_text}
use Rattle.tapes.proofs.Holds.{kept_join, kept_as}
use Rattle.tapes.proofs.Lists.{one_list}
use Rattle.tapes.proofs.answer_list.Goals as goal

pub returns-then-name-text : goal.returns-then-name-text
returns-then-name-text c =
    let name = c.next_part-name.result.now in
    let part = c.next_part-name.ensures in
    let rest = c.print_parts.ensures in
    record {
      printed =
          kept_as (kept_join c.put.ensures rest.printed)
          (ap (λ (l : List ℕ). name ++ parts_text l) part.left ∙ one_list c.args.parts.now.left.now name part.part c.if-name-text.true);
      left = rest.left ∙ ap left_after part.left;
    }
