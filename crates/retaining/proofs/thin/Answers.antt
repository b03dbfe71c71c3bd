-- `retaining::thin` meets its contract. Assumes nothing.
use Rattle.std.proofs.Common.{rules}
use Rattle.retaining.proofs.Thins.{ends}
use Rattle.retaining.proofs.thin.Goals as goal

pub returns : goal.returns
returns c = ends c.loop-mark.invariant _ c.past_last_zero.result (cc) c.past_last_zero.ensures.past (search rules)
