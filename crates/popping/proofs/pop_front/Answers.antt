-- `popping::pop_front` meets its contract. Assumes nothing.
use mathlib.Core.Bool.{true}
use Rattle.popping.proofs.pop_front.Goals as goal

pub returns : goal.returns
returns c = c.pop.ensures true (cc)
