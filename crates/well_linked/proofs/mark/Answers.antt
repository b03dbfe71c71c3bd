-- `well_linked::mark` meets its contract: what is marked and what is still to come are together the places. Assumes nothing.
use mathlib.Core.List.{map}
use mathlib.Core.Path.{ap}
use native.Mathlib.Omega.{arith}
use Rattle.well_linked.proofs.Marking.{marking_far}
use Rattle.well_linked.proofs.mark.Goals as goal

pub returns-then-fresh-q : goal.returns-then-fresh-q
returns-then-fresh-q g c =
    marking_far c.loop-place.invariant (ap (map g.P.Place.number) c.in-Some.ensures.steps) _ (omega (arith, c.index-q.ensures, c.if-fresh-q.true))
