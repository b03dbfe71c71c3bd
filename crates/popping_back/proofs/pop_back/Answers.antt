-- `popping_back::pop_back` meets its contract. Assumes nothing.
use mathlib.Core.Bool.{false}
use Rattle.popping_back.proofs.pop_back.Goals as goal

pub returns : goal.returns
returns c = c.pop.ensures false (cc)
