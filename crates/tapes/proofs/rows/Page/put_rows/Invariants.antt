use mathlib.Core.Path.{◌≡◌}
use lib.ListN.{drop}
use Rattle.tapes.specs.Printed.{rows}
use Rattle.tapes.proofs.Holds.{Coming}
use Rattle.tapes.proofs.rows.Page.put_rows.Given as goal

abbrev pub invariant-loop-i : goal.invariant-loop-i
invariant-loop-i l =
    (l.self.out.ghost_name ≡ l.initial.self.out.ghost_name)
    × Coming l.initial.self.out.now l.initial.self.at (rows l.width 0 l.values) l.self.out.now l.self.at (rows l.width l.i (drop l.i l.values))
