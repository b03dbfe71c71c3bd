use Prim.Native.Nat.{◌-◌}
use lib.ListN.{get_or}
use Rattle.links.specs.Route.{walk}
use Rattle.links.specs.Stores.{at_in}
use Rattle.copying.proofs.Copying.{Copying}
use Rattle.copying.proofs.copy.Given as goal

abbrev pub invariant-loop-slot : goal.invariant-loop-slot
invariant-loop-slot g l =
    let P = g.P.Place in
    let next = at_in P.number P.of l.next in
    Copying (λ x. get_or l.values (P.number x) 0) (walk next l.fn.first l.n) l.initial.slot-items l.slot-index (walk next l.x (l.n - l.slot-index)) l.slot-items
