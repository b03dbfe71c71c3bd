-- `packing::fill` meets its contract, by the laws of proofs/Fills.antt. Assumes nothing.
use Prim.Native.Nat.{ℕ, ◌+◌}
use mathlib.Core.List.{[], ◌∷◌, ◌++◌}
use mathlib.Core.Path.{◌≡◌, sym, subst}
use lib.ListN.{length}
use borrow.Author.Rules.{rules}
use Rattle.std.proofs.lemmas.List.{length-append}
use Rattle.std.proofs.lemmas.Slice.Zip.{zip_turn}
use Rattle.packing.specs.Building.{Filled}
use Rattle.packing.proofs.Fills.{fills_more}
use Rattle.packing.proofs.fill.Goals as goal

pub loop-owner-preserved : goal.loop-owner-preserved
loop-owner-preserved c =
    λ g same.
    let l = c.loop-owner in
    let t = zip_turn c.args.owners.now c.args.scores.now l.yielded _ _ c.next.new.self _ (search rules) (search rules) l.yielded_by _ c.in-Some.is c.next.ensures.steps in
    let e : length l.yielded + 1 ≡ length (l.yielded ++ (c.in-Some.field-0-0, c.in-Some.field-0-1) ∷ []) = sym (length-append l.yielded _) in
    subst (λ (j : ℕ). Filled c.args.map.now c.args.owners.now c.args.scores.now j c.add.new.map) e
    (fills_more c.args.owners.now c.args.scores.now _ c.args.map.now g (length l.yielded) l.map (l.invariant g same)
    t.0 (t.2 0) (t.3 0) c.add.ensures)
