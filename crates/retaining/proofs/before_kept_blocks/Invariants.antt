-- What the loop of `retaining::before_kept_blocks` keeps: no mark from `end` on is 0. The measure is `end`.
use Rattle.std.proofs.Common.{◌≢◌, ◌≤◌, ◌<◌, ℕ, length, slice_index}
use Rattle.retaining.proofs.before_kept_blocks.Given as goal

abbrev pub invariant-loop-end : goal.invariant-loop-end
invariant-loop-end l =
    record { inside : l.end ≤ length l.marks; past : (k : ℕ) → l.end ≤ k → k < length l.marks → slice_index l.marks k ≢ 0 }

abbrev pub decreases-loop-end : goal.decreases-loop-end
decreases-loop-end l = l.end
