-- `replay::Tape::run` meets its contract. The loop's invariant: whatever a run from here on comes to stands behind what is done (Reached of
-- specs/Tape.antt). Assumes nothing.
use Rattle.replay.proofs.Places.{all_ran}
use Rattle.replay.proofs.Tape.run.Goals as goal

pub loop-next-preserved : goal.loop-next-preserved
loop-next-preserved c = (c.in-Some.ensures.within, λ wl. c.in-Some.ensures.keeps _ _ (c.loop-next.invariant.1 wl))

pub returns : goal.returns
returns c =
    let e = c.in_default.ensures in
    λ wl. rw (e.tape_is, e.map_is) (all_ran (c.loop-next.invariant.1 wl) e.none)
