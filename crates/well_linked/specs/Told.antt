-- What the check says by a number, as a C interface has it.
use Rattle.std.specs.Prelude.{ℕ, ◌≡◌, ◌⊎◌}

-- 1 where P, 0 where not
abbrev pub Tells : ℕ → Type 0 → Type 0
Tells r P = ((r ≡ 1) × P) ⊎ ((r ≡ 0) × (P → ⊥))
