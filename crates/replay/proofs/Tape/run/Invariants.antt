use Prim.Native.Nat.{◌*◌, ◌-◌}
use lib.ListN.{length}
use Rattle.multimap.specs.WellLinked.{WellLinked}
use Rattle.replay.specs.Place.{At, Within}
use Rattle.replay.proofs.Tape.run.Given as goal

abbrev pub invariant-loop-next : goal.invariant-loop-next
invariant-loop-next l =
    Within l.p l.self × (WellLinked l.initial.map → At l.initial.self l.initial.map l.p l.self l.map)

abbrev pub decreases-loop-next : goal.decreases-loop-next
decreases-loop-next l = length l.self.calls.now - (7 * l.p.ran)
