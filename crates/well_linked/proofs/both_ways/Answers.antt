-- `well_linked::both_ways` meets its contract: the route holds exactly if what is left of it does. Assumes nothing.
use mathlib.Core.List.{map}
use mathlib.Core.Path.{ap, ◌∙◌}
use Rattle.links.specs.Route.{walk}
use Rattle.well_linked.specs.Marks.{place_at}
use Rattle.well_linked.proofs.Marking.{walk_numbers}
use Rattle.well_linked.proofs.Ways.{going_none}
use Rattle.well_linked.proofs.both_ways.Goals as goal

pub loop-here-init : goal.loop-here-init
loop-here-init g c =
    let P = g.P.Place in
    going_none _ _ _ _ c.args.many
    (ap (map P.number) (c.into_iter-here-iterator.ensures.into_iter_gives ∙ c.along-here-items.ensures.places) ∙ walk_numbers P.number P.of c.args.next.now _ c.args.many ∙ ap (λ x. walk (place_at P.number P.of c.args.next.now) (P.number x) c.args.many) c.after.ensures)
