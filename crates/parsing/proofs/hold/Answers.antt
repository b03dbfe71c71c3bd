-- `parsing::hold` meets its contract. Assumes nothing.
use native.Mathlib.Omega.{arith}
use Rattle.parsing.proofs.Splits.{held_put}
use Rattle.parsing.proofs.hold.Goals as goal

pub returns : goal.returns
returns g c = held_put _ _ _ _ _ _ _ c.min-at.ensures (omega (arith, c.min.ensures)) (omega arith) c.copy_from_slice.ensures.after
