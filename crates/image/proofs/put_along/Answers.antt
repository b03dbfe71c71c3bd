-- `image::put_along` meets its contract. The loop's invariant is `Running`; its laws are those of proofs/Runs.antt. Assumes nothing.
use mathlib.Core.Path.{refl, ap, ◌∙◌}
use native.Mathlib.Omega.{arith}
use Rattle.std.proofs.lemmas.List.{length_push}
use Rattle.links.specs.Stores.{at}
use Rattle.image.proofs.Writes.{stores}
use Rattle.image.proofs.Runs.{running_start, running_one, running_all, sizes_stored, sizes_past}
use Rattle.image.proofs.put_along.Goals as goal

pub loop-x-init : goal.loop-x-init
loop-x-init c =
    let m = c.args.map.now in
    running_start m.keys m.values m.key_index m.next_value m.rounds.len m.members.len (c.into_iter-x-iterator.ensures.into_iter_gives ∙ c.round_places-x-items.ensures.places) _
    (sizes_stored m.keys m.values m.key_index m.next_value m.rounds.len m.members.len c.args.out.now _ _
    (stores c.args.out.now 0 4 c.put.ensures c.to_le_bytes.ensures c.from.ensures)
    (stores c.put.new.out 4 4 c.put-2.ensures c.to_le_bytes-2.ensures c.from-2.ensures) c.requires)

pub loop-x-preserved : goal.loop-x-preserved
loop-x-preserved c =
    let m = c.args.map.now in
    running_one m.keys m.values m.key_index m.next_value m.rounds.len m.members.len c.loop-x.invariant
    (omega (arith, c.put.auto.out, c.put-2.auto.out, c.requires)) c.in-Some.ensures.steps
    _ _ (c.member.ensures ∙ ap (at m.keys) c.owner.ensures) c.round.ensures _ _
    (stores c.loop-x.out c.loop-x.first 8 c.put-in-loop-x.ensures c.to_le_bytes-in-loop-x.ensures refl)
    (stores c.put-in-loop-x.new.out c.loop-x.second 8 c.put-in-loop-x-2.ensures c.to_le_bytes-in-loop-x-2.ensures refl) (length_push c.loop-x.yielded c.in-Some.x)

pub returns : goal.returns
returns c =
    let m = c.args.map.now in
    running_all m.keys m.values m.key_index m.next_value m.rounds.len m.members.len c.loop-x.invariant c.in-None.ensures.steps.0
    ∙ sizes_past m.keys m.values m.key_index m.next_value m.rounds.len m.members.len c.args.out.now _ _
    (stores c.args.out.now 0 4 c.put.ensures c.to_le_bytes.ensures c.from.ensures)
    (stores c.put.new.out 4 4 c.put-2.ensures c.to_le_bytes-2.ensures c.from-2.ensures)
