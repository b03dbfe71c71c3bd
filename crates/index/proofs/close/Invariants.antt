use Rattle.std.proofs.Common.{List, ℕ, ◌<◌, ◌+◌, ◌%◌, get_or}
use Rattle.index.specs.Table.{Holds}
use Rattle.index.proofs.Table.{spare}
use Rattle.index.proofs.Shift.{Gap}
use Rattle.index.proofs.close.Given as goal

abbrev pub invariant-loop-passed : goal.invariant-loop-passed
invariant-loop-passed l =
    (l.gap < 512) × ((ks : List ℕ) (h : Holds l.initial.index l.keys ks) → get_or l.initial.index l.at 0 < 256
    → Gap l.keys ks (get_or l.initial.index l.at 0) l.at (spare h).0 l.index l.gap ((l.at + l.passed) % 512) l.passed)
