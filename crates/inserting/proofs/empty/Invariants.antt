use mathlib.Core.Path.{◌≡◌}
use Prim.Native.Nat.{◌-◌}
use Rattle.multimap.specs.Changes.{strikes}
use Rattle.inserting.specs.Records.{without_record}
use Rattle.inserting.proofs.empty.Given as goal

abbrev pub invariant-loop : goal.invariant-loop
invariant-loop l = strikes (l.end - l.counter) l.x l.map ≡ without_record l.fn.map l.fn.key
