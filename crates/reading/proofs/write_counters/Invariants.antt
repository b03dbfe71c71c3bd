use Rattle.reading.proofs.Counters.{Written}
use Rattle.reading.proofs.write_counters.Given as goal

abbrev pub invariant-loop-i : goal.invariant-loop-i
invariant-loop-i l = Written l.map.taken l.initial.out l.i l.out
