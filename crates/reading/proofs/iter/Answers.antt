-- `reading::iter` meets its contract. The loop's invariant: i members and i rounds are copied, and the others' places are left. Assumes
-- nothing.
use mathlib.Core.Path.{ap, ◌∙◌}
use mathlib.Core.Logic.{inl, inr}
use lib.ListN.{length}
use Rattle.links.specs.Stores.{at}
use Rattle.copying.proofs.Copying.{one_copied, all_copied}
use Rattle.reading.proofs.Steps.{does_iter_short, does_iter}
use Rattle.reading.proofs.iter.Goals as goal
use Rattle.reading.proofs.iter.Goals.{then-members-end-via-then-members-end, then-members-end-via-else-members-end+then-rounds-end}

pub returns-then-members-end : goal.returns-then-members-end
returns-then-members-end c =
    λ α h g.
    does_iter_short α g c.args.map.now c.args.members.now c.args.rounds.now h (c.len-end.ensures.value ∙ ap length c.round_places-places.ensures.places)
    (elim c.then-members-end.branch [
      | then-members-end-via-then-members-end w ↦ inl w.if-members-end.true
      | then-members-end-via-else-members-end+then-rounds-end w ↦ inr w.if-rounds-end.true
    ])

pub loop-i-preserved : goal.loop-i-preserved
loop-i-preserved c =
    let inv = c.loop-i.invariant in
    let turn = c.in-Some.ensures.steps in (
      one_copied inv.0 turn.0 turn.1 turn.2 (c.member.ensures ∙ ap (at c.args.map.now.keys) c.owner.ensures),
      one_copied inv.1 turn.0 turn.1 turn.2 c.round.ensures,
    )

pub returns : goal.returns
returns c =
    let inv = c.loop-i.invariant in
    let ended = c.in-None.ensures.steps.0.0 in
    λ α h g.
    does_iter α g c.args.map.now c.args.members.now c.args.rounds.now h (c.len-end.ensures.value ∙ ap length c.round_places-places.ensures.places) c.if-members-end.false c.if-rounds-end.false
    (all_copied inv.0 ended) (all_copied inv.1 ended)
