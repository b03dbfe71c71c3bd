-- What the loop of `calls::answer_input` keeps: the map is well-linked.
use Rattle.multimap.specs.WellLinked.{WellLinked}
use Rattle.calls.proofs.answer_input.Given as goal

abbrev pub invariant-loop : goal.invariant-loop
invariant-loop g l = WellLinked l.map
