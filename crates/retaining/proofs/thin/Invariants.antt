use Rattle.retaining.proofs.Thins.{Going}
use Rattle.retaining.proofs.thin.Given as goal

abbrev pub invariant-loop-mark : goal.invariant-loop-mark
invariant-loop-mark l = Going l.fn.marks l.initial.x l.initial.map l.mark-index l.x l.map
