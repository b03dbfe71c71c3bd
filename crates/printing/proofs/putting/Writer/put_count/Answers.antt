-- `printing::putting::Writer::put_count` meets its contract. Assumes nothing.
use native.Mathlib.Omega.{arith}
use Rattle.printing.proofs.Puts.{wrote_join, wrote_long}
use Rattle.printing.proofs.putting.Writer.put_count.Goals as goal

pub put_after-requires : goal.put_after-requires
put_after-requires c = omega (arith, c.requires, c.put.ensures.put.next, wrote_long c.put.ensures)

pub returns : goal.returns
returns c = wrote_join c.put.ensures c.put_after.ensures
