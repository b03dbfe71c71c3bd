-- `packing::copy_members` meets its contract, by the laws of proofs/Copying.antt. Assumes nothing.
use mathlib.Core.Path.{sym, ◌∙◌}
use native.Mathlib.Omega.{arith}
use Rattle.links.proofs.Walks.{passed_one, passed_all}
use Rattle.packing.proofs.Copying.{long, one_listed, all_listed, one_ranked}
use Rattle.packing.proofs.copy_members.Goals as goal

pub loop-rank-preserved : goal.loop-rank-preserved
loop-rank-preserved c =
    let inv = c.loop-rank.invariant in
    let turn = c.in-Some.ensures.steps in (
      passed_one inv.0 turn.0 turn.2,
      one_listed inv.1 turn.0 turn.1 turn.2 c.member.ensures c.put.ensures,
      λ n d. one_ranked inv.0 (inv.2 n d) d turn.0 turn.1 turn.2 (cc),
    )

pub returns : goal.returns
returns c =
    λ d n.
    let inv = c.loop-rank.invariant in
    let ended = c.in-None.ensures.steps.0.0 in
    record { number = all_listed inv.1 ended (n ∙ sym (long c.args.map.now.next_key 256 c.args.map.now.members.len)); rank = λ i h. (inv.2 n d).rank i (omega (arith, passed_all inv.0 ended)) }
