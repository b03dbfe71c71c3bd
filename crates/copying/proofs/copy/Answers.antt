-- `copying::copy` meets its contract. The loop's invariant: so many values are copied, and the walk is at the next place. Assumes nothing.
use Prim.Native.Nat.{ℕ, ◌<◌}
use mathlib.Core.Path.{refl, ap, ◌∙◌}
use lib.ListN.{get_or}
use borrow.Author.Rules.{rules}
use native.Mathlib.Nat.{sub-zero}
use Rattle.links.specs.Route.{walk}
use Rattle.links.proofs.Lists.{length_walk}
use Rattle.links.proofs.Walks.{walk_more}
use Rattle.copying.proofs.Copying.{copying_none, one_copied, writing_none}
use Rattle.copying.proofs.copy.Goals as goal

pub returns-then-out-end : goal.returns-then-out-end
returns-then-out-end g c = writing_none _ _ _ c.args.n _ c.if-out-end.true

pub loop-slot-init : goal.loop-slot-init
loop-slot-init g c = copying_none (ap (walk _ _) (sub-zero c.args.n)) (rw length_walk (search rules))

pub loop-slot-preserved : goal.loop-slot-preserved
loop-slot-preserved g c =
    let more : c.loop-slot.slot-index < c.args.n = search rules in
    rw c.after-x.ensures
    (one_copied c.loop-slot.invariant (walk_more _ _ c.args.n _ more) refl refl
    (c.get_or.ensures ∙ ap (λ (i : ℕ). get_or c.args.values.now i 0) c.index.ensures))
