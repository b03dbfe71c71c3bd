use Rattle.std.specs.Iterator.Adapters.{enumerate_source, enumerate_count}
use Rattle.multimap.specs.Map.{at}
use Rattle.packing.specs.Building.{listed}
use Rattle.packing.proofs.Copying.{Listed}
use Rattle.packing.proofs.copy_rounds.Given as goal

abbrev pub invariant-loop-i : goal.invariant-loop-i
invariant-loop-i l =
    let vs = listed l.map.next_value 1024 l.map.rounds.len in
    let i = enumerate_count l.i-iterator in
    let ws = enumerate_source l.i-iterator in
    Listed (λ q. at l.ranks (at l.map.key_index q)) vs l.initial.owners i ws l.owners × Listed (at l.map.values) vs l.initial.scores i ws l.scores
