-- `lines::answer_next` meets its contract. Assumes nothing.
use native.Mathlib.Omega.{arith}
use Rattle.lines.proofs.Chunks.{took_line, took_part}
use Rattle.lines.proofs.answer_next.Goals as goal

pub returns-in-Some-clause-chunked : goal.returns-in-Some-clause-chunked
returns-in-Some-clause-chunked c = took_line (omega arith) c.in-Some.ensures c.requires.roomy c.answer_line-used.auto.out (rw c.front.ensures at c.answer_line-used.ensures)

pub returns-in-None-clause-chunked : goal.returns-in-None-clause-chunked
returns-in-None-clause-chunked c = took_part (omega arith) c.args.out.now c.in-None.ensures
