-- `printing::putting::Writer::put_answer` meets its contract. Assumes nothing.
use native.Mathlib.Omega.{arith}
use Rattle.steps.specs.Call.{popped}
use Rattle.printing.proofs.Sayings.{answer_long}
use Rattle.printing.proofs.putting.Writer.put_answer.Goals as goal

pub returns-in-Popped-clause-short : goal.returns-in-Popped-clause-short
returns-in-Popped-clause-short c =
    let p = c.in-Popped.p in
    omega (arith, c.put_popped.ensures.put.next, answer_long (popped p.member p.round p.gone))
