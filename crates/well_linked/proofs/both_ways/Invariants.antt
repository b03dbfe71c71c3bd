use mathlib.Core.List.{map}
use Rattle.links.specs.Route.{walk}
use Rattle.well_linked.specs.Marks.{place_at}
use Rattle.well_linked.proofs.Ways.{Going}
use Rattle.well_linked.proofs.both_ways.Given as goal

abbrev pub invariant-loop-here : goal.invariant-loop-here
invariant-loop-here g l =
    let P = g.P.Place in
    let next = place_at P.number P.of l.next in
    Going next (place_at P.number P.of l.previous) (P.number l.root) (P.number l.root) (walk next (next (P.number l.root)) l.many) (P.number l.before) (map P.number l.here-iterator)
