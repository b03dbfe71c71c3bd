use Rattle.removing.proofs.Expels.{Going}
use Rattle.removing.proofs.remove_record.Given as goal

abbrev pub invariant-loop : goal.invariant-loop
invariant-loop l = Going l.end l.initial.x l.initial.map l.counter l.x l.map
