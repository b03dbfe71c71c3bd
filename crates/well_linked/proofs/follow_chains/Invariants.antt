use Rattle.links.specs.Places.{order}
use Rattle.multimap.specs.Map.{at, rounds_of}
use Rattle.well_linked.proofs.Chaining.{Chaining}
use Rattle.well_linked.proofs.follow_chains.Given as goal

abbrev pub invariant-loop-here : goal.invariant-loop-here
invariant-loop-here l =
    Chaining (at l.map.key_index) (at l.map.next_index) (at l.map.previous_index) (order (rounds_of l.map)) l.used l.chains l.here-iterator
