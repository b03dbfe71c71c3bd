use mathlib.Core.List.{map}
use Rattle.well_linked.proofs.Marking.{Marking}
use Rattle.well_linked.proofs.mark.Given as goal

abbrev pub invariant-loop-place : goal.invariant-loop-place
invariant-loop-place g l =
    let P = g.P.Place in
    Marking l.fresh (map P.number l.fn.places) l.initial.met l.met (map P.number l.place-iterator)
