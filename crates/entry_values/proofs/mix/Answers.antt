use Rattle.entry_values.proofs.Mixing.{Going_more}
use Rattle.entry_values.proofs.mix.Goals as goal

pub loop-mark-preserved : goal.loop-mark-preserved
loop-mark-preserved c = Going_more c.loop-mark.invariant c.loop-mark-test.true c.call.ensures.gave c.put-given.ensures.number c.put-given.ensures.written
