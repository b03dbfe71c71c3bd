use lib.ListN.{take}
use Rattle.printing.specs.Put.{Wrote}
use Rattle.printing.specs.Text.{values}
use Rattle.printing.proofs.putting.Writer.put_values.Given as goal

abbrev pub invariant-loop-value : goal.invariant-loop-value
invariant-loop-value l = Wrote l.initial.self (values (take l.value-index l.values)) l.self
