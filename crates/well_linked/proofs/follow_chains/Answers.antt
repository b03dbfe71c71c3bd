-- `well_linked::follow_chains` meets its contract: each chain holds exactly if what is left of it does, from its last cell so far.
-- Assumes nothing.
use mathlib.Core.Path.{ap, ◌∙◌}
use native.Mathlib.Omega.{arith}
use lib.ListN.{length}
use Rattle.well_linked.proofs.Chaining.{room, read_chain}
use Rattle.well_linked.proofs.follow_chains.Goals as goal

pub overflow_add-chains : goal.overflow_add-chains
overflow_add-chains c =
    let read = read_chain c.loop-here.chains c.index-k.result c.index-chains-k.result c.loop-here.invariant.long c.if-k.false in
    rw read
    (omega (
      arith,
      room c.loop-here.invariant c.in-Some.ensures.steps (c.index-k.ensures ∙ c.owner.ensures) c.if-k.false,
      ap length c.round_places-here-items.ensures.places,
      c.round_places-here-items.ensures.few,
    ))
