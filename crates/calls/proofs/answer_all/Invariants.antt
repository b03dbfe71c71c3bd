-- What the loop of `calls::answer_all` keeps: the map is well-linked. The measure is what is left of the chunk.
use Rattle.std.proofs.Common.{length}
use Rattle.multimap.specs.WellLinked.{WellLinked}
use Rattle.calls.proofs.answer_all.Given as goal

abbrev pub invariant-loop-rest : goal.invariant-loop-rest
invariant-loop-rest g l = WellLinked l.map

abbrev pub decreases-loop-rest : goal.decreases-loop-rest
decreases-loop-rest g l = length l.rest
