-- `turn::call` meets its contract: from 24 on, as at 21, the call is `values_len`. Assumes nothing.
use mathlib.Core.Path.{refl}
use Rattle.std.proofs.Common.{rules}
use Rattle.turn.proofs.Calls.{of_no_other}
use Rattle.turn.proofs.call.Goals as goal

pub returns-in_default : goal.returns-in_default
returns-in_default c =
    of_no_other c.args.op (search rules) (rw c.into_answer-answer-in_default.ensures (c.values_len.ensures _ refl))
