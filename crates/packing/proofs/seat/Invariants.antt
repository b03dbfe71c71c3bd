use lib.ListN.{length}
use Rattle.multimap.specs.Map.{limits_of}
use Rattle.packing.specs.Building.{Apart, Seated}
use Rattle.packing.proofs.seat.Given as goal

abbrev pub invariant-loop-k : goal.invariant-loop-k
invariant-loop-k l =
    Seated l.numbers (limits_of l.initial.map) 0 l.initial.map → Apart l.numbers (length l.numbers) → Seated l.numbers (limits_of l.initial.map) l.k-index l.map
