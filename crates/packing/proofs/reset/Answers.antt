-- `packing::reset` meets its contract. Assumes nothing.
use mathlib.Core.Path.{ap}
use Rattle.steps.specs.State.{Limits}
use Rattle.packing.specs.Cleared.{cleared, zeros}
use Rattle.packing.proofs.reset.Goals as goal

pub returns : goal.returns
returns c =
    rw (c.vacate.ensures, c.new-first_key.ensures, c.new-first_value.ensures) (ap (λ (l : Limits). cleared (zeros l)) c.limits.view_is)
