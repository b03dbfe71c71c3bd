use mathlib.Core.Path.{◌≡◌}
use lib.ListN.{length}
use Rattle.packing.specs.Building.{Fillable, Filled}
use Rattle.packing.proofs.fill.Given as goal

abbrev pub invariant-loop-owner : goal.invariant-loop-owner
invariant-loop-owner l =
    Fillable l.owners (length l.owners) l.initial.map → length l.scores ≡ length l.owners → Filled l.initial.map l.owners l.scores (length l.yielded) l.map
