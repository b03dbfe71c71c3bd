-- What is decided, told by a number. Assumes nothing.
use mathlib.Core.Bool.{Bool, true, false}
use mathlib.Core.Logic.{inl, inr}
use mathlib.Core.Path.{refl}
use mir.Val.{bool_byte}
use Rattle.index.specs.Agree.{Decides}
use Rattle.well_linked.specs.Told.{Tells}

-- the number that the code casts the answer b to
pub tells : (b : Bool) {P : Type 0} → Decides b P → Tells (bool_byte b) P
tells true d = inl (refl, d)
tells false d = inr (refl, d)
