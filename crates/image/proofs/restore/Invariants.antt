use Rattle.std.specs.Prelude.{◌≡◌, length}
use Rattle.steps.specs.State.{empty}
use Rattle.multimap.specs.Map.{limits_of, state_of}
use Rattle.multimap.specs.WellLinked.{WellLinked}
use Rattle.image.proofs.Appends.{Building}
use Rattle.image.proofs.restore.Given as goal

abbrev pub invariant-loop-member : goal.invariant-loop-member
invariant-loop-member l =
    WellLinked l.initial.map → state_of l.initial.map ≡ empty (limits_of l.initial.map) → Building (limits_of l.initial.map) l.s l.n (length l.yielded) l.map
