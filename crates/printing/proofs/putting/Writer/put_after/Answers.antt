-- `printing::putting::Writer::put_after` meets its contract. Assumes nothing.
use mathlib.Core.Path.{ap}
use native.Mathlib.Omega.{arith}
use lib.ListN.{length}
use Rattle.printing.proofs.Decimals.{decimal_long}
use Rattle.printing.proofs.Puts.{wrote_long}
use Rattle.printing.proofs.putting.Writer.put_after.Goals as goal

pub put-requires-2 : goal.put-requires-2
put-requires-2 c = omega (arith, c.requires, c.put.ensures.put.next, wrote_long c.put.ensures, ap length c.decimal.ensures, decimal_long 20 c.args.n)
