-- `replay::replay` meets its contract: demand 3 holds of every list of calls from a new map. Assumes nothing.
use Rattle.std.proofs.Common.{rules}
use Rattle.replay.proofs.Tapes.{played}
use Rattle.replay.proofs.replay.Goals as goal

pub returns : goal.returns
returns c =
    let d = c.run.ensures c.new-map.ensures.0 in
    let r = d.ran in
    let s = d.same in
    let k = played _ _ _ _ _ _ _ _ _ _ _ _ r c.new-map.ensures.0 c.new-map.ensures.1 in
    search rules
