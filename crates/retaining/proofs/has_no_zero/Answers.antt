-- `retaining::has_no_zero` meets its contract. Assumes nothing.
use Rattle.std.proofs.Common.{rules, eqb}
use borrow.Author.Tests.{tests}
use mathlib.Core.Path.{◌∙◌}
use mathlib.Core.Bool.{true, not, ◌&&◌}
use Rattle.std.proofs.lemmas.Iterator.{YieldsList-from_slice}
use Rattle.std.proofs.lemmas.Iterator.Consumers.{fold_from_yields_List}
use Rattle.retaining.proofs.Thins.{all_by_fold}
use Rattle.retaining.proofs.has_no_zero.Goals as goal

pub returns : goal.returns
returns c =
    fold_from_yields_List _ (λ b m. b && not (eqb 0 m)) true _ c.fold.ensures.ran (YieldsList-from_slice c.args.marks.now cc)
    (λ a x b q k. search (rules, tests))
    ∙ all_by_fold (λ m. not (eqb 0 m)) true c.args.marks.now
