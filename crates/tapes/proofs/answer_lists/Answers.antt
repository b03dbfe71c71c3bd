-- `tapes::answer_lists` meets its contract. The loop's invariant: which lists are still to come. Assumes nothing.
use Prim.Native.Nat.{◌<◌}
use mathlib.Core.Path.{◌≡◌, ◌∙◌}
use native.Mathlib.Omega.{arith}
use lib.ListN.{length}
use Rattle.std.proofs.Common.{rules}
use Rattle.tapes.proofs.Lists.{lists_on, lists_done}
use Rattle.tapes.proofs.answer_lists.Goals as goal

pub loop-parts-preserved : goal.loop-parts-preserved
loop-parts-preserved c =
    let left = c.loop-parts.parts.left.now in
    let some : 0 < length left = grind (arith, c.loop-parts-test.ensures) in
    let k = c.answer_list.ensures in
    (k.printed.same_slice ∙ c.loop-parts.invariant.0, rw (k.left) (lists_on left c.loop-parts.invariant.1 some k.printed.held))

pub returns : goal.returns
returns c =
    let left = c.loop-parts.parts.left.now in
    let none : length left ≡ 0 = grind (arith, c.loop-parts-test.ensures) in
    let h = lists_done left c.loop-parts.invariant.1 none in
    search rules
