-- `well_linked::list_linked` meets its contract: the places in use, the freed ones besides, and the route. Assumes nothing.
use native.Mathlib.Omega.{arith}
use Rattle.index.proofs.Agree.{decides_map}
use Rattle.links.specs.Places.{Places, Linked}
use Rattle.well_linked.specs.Marks.{list_of}
use Rattle.well_linked.proofs.Marking.{walk_numbers}
use Rattle.well_linked.proofs.Linking.{used_refused, freed_refused, linked_so}
use Rattle.well_linked.proofs.list_linked.Goals as goal

pub returns-then-not-mark : goal.returns-then-not-mark
returns-then-not-mark g c =
    let l : Places = list_of g.P.Place.number g.P.Place.of c.args.next.now c.args.previous.now c.args.root c.args.counts.now in
    used_refused l 1024 (rw (c.along.ensures.places, walk_numbers, c.after-first.ensures) at c.mark.ensures) c.if-not-mark.true

pub returns-then-not-mark-2 : goal.returns-then-not-mark-2
returns-then-not-mark-2 g c =
    let l : Places = list_of g.P.Place.number g.P.Place.of c.args.next.now c.args.previous.now c.args.root c.args.counts.now in
    freed_refused l 1024 (rw (c.along.ensures.places, walk_numbers, c.after-first.ensures) at c.mark.ensures) c.if-not-mark.false (rw (c.along-2.ensures.places, walk_numbers, c.new-free.ensures) at c.mark-2.ensures) c.if-not-mark-2.true

pub returns : goal.returns
returns g c =
    let l : Places = list_of g.P.Place.number g.P.Place.of c.args.next.now c.args.previous.now c.args.root c.args.counts.now in
    decides_map c.both_ways.result
    (linked_so l 1024 (rw (c.along.ensures.places, walk_numbers, c.after-first.ensures) at c.mark.ensures) c.if-not-mark.false (rw (c.along-2.ensures.places, walk_numbers, c.new-free.ensures) at c.mark-2.ensures) c.if-not-mark-2.false
    (omega (arith, c.if-fresh-len.false)) (omega (arith, c.index.ensures, c.if-index-fresh.false))) (λ (g : Linked l). g.route) c.both_ways.ensures
