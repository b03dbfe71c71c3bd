-- `retaining::before_kept_blocks` meets its contract. Assumes nothing.
use Rattle.std.proofs.Common.{◌≡◌, ◌≤◌, ◌-◌, ℕ, eqb, not, true, take, drop}
use native.Mathlib.Omega.{arith}
use mathlib.Core.Path.{sym, subst, ◌∙◌}
use Rattle.steps.specs.Lists.{all}
use Rattle.retaining.proofs.Thins.{block_kept}
use Rattle.retaining.proofs.before_kept_blocks.Goals as goal

pub loop-end-preserved : goal.loop-end-preserved
loop-end-preserved c =
    let j = c.loop-end.end in
    let ms = c.args.marks.now in
    let fits : 64 ≤ j = c.loop-end-test.true in
    let whole : j - (j - 64) ≡ 64 = omega (arith, fits) in
    record {
      inside = omega (arith, c.loop-end.invariant.inside);
      past =
          block_kept ms 64 j c.loop-end.invariant.inside fits
          (subst (λ (n : ℕ). all (λ m. not (eqb 0 m)) (take n (drop (j - 64) ms)) ≡ true) whole (sym c.has_no_zero.ensures ∙ c.if-has_no_zero.true))
          c.loop-end.invariant.past;
    }
