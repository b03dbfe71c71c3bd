use Rattle.std.specs.Iterator.Adapters.{enumerate_source, enumerate_count}
use Rattle.links.specs.Places.{order}
use Rattle.multimap.specs.Map.{at, rounds_of}
use Rattle.copying.proofs.Copying.{Copying}
use Rattle.reading.proofs.iter.Given as goal

abbrev pub invariant-loop-i : goal.invariant-loop-i
invariant-loop-i l =
    Copying (λ x. at l.map.keys (at l.map.key_index x)) (order (rounds_of l.map)) l.initial.members (enumerate_count l.i-iterator) (enumerate_source l.i-iterator) l.members
    × Copying (at l.map.values) (order (rounds_of l.map)) l.initial.rounds (enumerate_count l.i-iterator) (enumerate_source l.i-iterator) l.rounds
