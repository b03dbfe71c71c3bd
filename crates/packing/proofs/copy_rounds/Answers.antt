-- `packing::copy_rounds` meets its contract, by the laws of proofs/Copying.antt. Assumes nothing.
use mathlib.Core.Path.{sym, ap, ◌∙◌}
use Rattle.multimap.specs.Map.{at}
use Rattle.packing.proofs.Copying.{long, one_listed, all_listed}
use Rattle.packing.proofs.copy_rounds.Goals as goal

pub loop-i-preserved : goal.loop-i-preserved
loop-i-preserved c =
    let inv = c.loop-i.invariant in
    let turn = c.in-Some.ensures.steps in (
      one_listed inv.0 turn.0 turn.1 turn.2 (c.after.ensures ∙ ap (at c.args.ranks.now) c.owner.ensures) c.put.ensures,
      one_listed inv.1 turn.0 turn.1 turn.2 c.round.ensures c.put-in-loop-i.ensures,
    )

pub returns : goal.returns
returns c =
    λ o s.
    let inv = c.loop-i.invariant in
    let ended = c.in-None.ensures.steps.0.0 in
    let many = sym (long c.args.map.now.next_value 1024 c.args.map.now.rounds.len) in
    record { owner = all_listed inv.0 ended (o ∙ many); score = all_listed inv.1 ended (s ∙ many) }
