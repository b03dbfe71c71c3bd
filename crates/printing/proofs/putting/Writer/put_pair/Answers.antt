-- `printing::putting::Writer::put_pair` meets its contract. Assumes nothing.
use native.Mathlib.Omega.{arith}
use Rattle.printing.proofs.Puts.{wrote_join, wrote_long}
use Rattle.printing.proofs.Runs.{after_long}
use Rattle.printing.proofs.putting.Writer.put_pair.Goals as goal

pub put_after-requires-2 : goal.put_after-requires-2
put_after-requires-2 c = omega (arith, c.requires, c.put_after.ensures.put.next, wrote_long c.put_after.ensures, after_long 32 c.args.member)

pub returns : goal.returns
returns c = wrote_join c.put_after.ensures c.put_after-2.ensures
