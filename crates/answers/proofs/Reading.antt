-- What the last arm of a `match` is told of a number. Assumes nothing.
use Prim.Native.Nat.{ℕ, zero, suc, ◌+◌, ◌≤◌}
use mathlib.Core.Path.{◌≡◌}
use native.Mathlib.Omega.{arith}

-- n is none of the j numbers from b on
abbrev pub NoneFrom : ℕ → ℕ → ℕ → Type 0
NoneFrom b n zero = Unit {0}
NoneFrom b n (suc j) = NoneFrom b n j × (n ≡ b + j → ⊥)

pub at_least : (b n j : ℕ) → b ≤ n → NoneFrom b n j → b + j ≤ n
at_least b n zero l h = omega arith
at_least b n (suc j) l h = next (at_least b n j l h.0) h.1
  where
    next : b + j ≤ n → (n ≡ b + j → ⊥) → b + suc j ≤ n
    next m e = omega arith
