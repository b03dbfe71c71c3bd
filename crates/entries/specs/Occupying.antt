-- Whether a call on an Occupied entry goes on.
use Rattle.std.specs.Prelude.{◌≡◌, Bool, Result, Ok, Err, true, false}
use Rattle.answers.specs.declared.Refusal.{Refusal}
use Rattle.answers.specs.declared.Refusal.TheVariants.{Absent}

-- r refuses exactly where there is no such member, by 9
abbrev pub Occupying : Bool → Result (Unit {0}) Refusal → Type 0
Occupying there (Ok d) = there ≡ true
Occupying there (Err r) = (there ≡ false) × (r ≡ Absent)
