-- `well_linked::members_linked` meets its contract: the records and the index are decided, and together with the lists they are the whole.
-- Assumes nothing.
use mathlib.Core.List.{map-id}
use Rattle.index.proofs.Agree.{decides_map}
use Rattle.links.specs.Places.{order}
use Rattle.multimap.specs.Map.{members_of}
use Rattle.well_linked.proofs.Linking.{marked_so}
use Rattle.well_linked.proofs.Whole.{listed, recorded, well_linked_so}
use Rattle.well_linked.proofs.members_linked.Goals as goal

pub returns-else-chains_linked : goal.returns-else-chains_linked
returns-else-chains_linked c =
    let m = c.args.map.now in
    let u = marked_so (members_of m) 256 c.mark.result (rw (c.member_places.ensures.places, map-id) at c.mark.ensures) c.requires.linked.1 in
    rw c.if-chains_linked.false (λ w. c.if-chains_linked.ensures (recorded m c.requires.linked.0 c.requires.linked.1 _ u w))

pub returns-then-chains_linked : goal.returns-then-chains_linked
returns-then-chains_linked c =
    let m = c.args.map.now in
    let r = c.requires.linked.0 in
    let g = c.requires.linked.1 in
    let u = marked_so (members_of m) 256 c.mark.result (rw (c.member_places.ensures.places, map-id) at c.mark.ensures) g in
    decides_map c.agrees.result (well_linked_so m r g _ u c.if-chains_linked.ensures c.requires.bounded) (λ w. w.index)
    (c.agrees.ensures (order (members_of m)) (listed m r g _ u))
