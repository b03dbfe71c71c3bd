use mathlib.Core.Path.{◌≡◌}
use lib.ListN.{length}
use Rattle.std.specs.Iterator.Adapters.{enumerate_source, enumerate_count}
use Rattle.links.proofs.Walks.{Passed}
use Rattle.multimap.specs.Map.{at}
use Rattle.packing.specs.Building.{listed, Distinct}
use Rattle.packing.proofs.Copying.{Listed, Ranked}
use Rattle.packing.proofs.copy_members.Given as goal

abbrev pub invariant-loop-rank : goal.invariant-loop-rank
invariant-loop-rank l =
    let m = l.map in
    let ks = listed m.next_key 256 m.members.len in
    let i = enumerate_count l.rank-iterator in
    let ws = enumerate_source l.rank-iterator in
    Passed ks i ws × Listed (at m.keys) ks l.initial.numbers i ws l.numbers
    × (length l.initial.numbers ≡ m.members.len → Distinct ks 256 → Ranked ks i l.ranks)
