-- A walk that marks places, a turn at a time: what is marked and what is still to come are together what was marked and the whole walk.
-- Assumes nothing.
use Prim.Native.Nat.{ℕ, zero, suc, ◌+◌, ◌≤◌}
use mathlib.Core.Path.{◌≡◌, refl, ap}
use mathlib.Core.Bool.{Bool, true, false}
use mathlib.Core.List.{List, ◌∷◌, map}
use native.Mathlib.Omega.{arith}
use lib.ListN.{length}
use Rattle.links.specs.Route.{bit, tally, walk}
use Rattle.links.specs.Stores.{at_in}
use Rattle.links.proofs.Routes.{tally_same}
use Rattle.well_linked.specs.Marks.{place_at, marks, Marks}

bit_le : (b : Bool) → bit b ≤ 1
bit_le true = omega arith
bit_le false = omega arith

-- the numbers of the places along links
pub walk_numbers : {P : Type 0} (number : P → ℕ) (of : ℕ → P) (next : List P) (s : P) (k : ℕ)
    → map number (walk (at_in number of next) s k) ≡ walk (place_at number of next) (number s) k
walk_numbers number of next s zero = refl
walk_numbers number of next s (suc k) = ap (λ (l : List ℕ). number s ∷ l) (walk_numbers number of next (at_in number of next s) k)

pub record Marking (f : ℕ) (all : List ℕ) (met₀ met : List Bool) (rest : List ℕ) : Type 0 where
  pub sums : (q : ℕ) → marks met q + tally q rest ≡ marks met₀ q + tally q all
  -- the places passed are below f
  pub far : (q : ℕ) → f ≤ q → tally q rest ≡ tally q all
  pub long : length met ≡ length met₀

module _ {f : ℕ} {all : List ℕ} {met₀ met : List Bool} {rest : List ℕ} (m : Marking f all met₀ met rest) where
  module _ {x : ℕ} {xs : List ℕ} (e : rest ≡ x ∷ xs) where
    refuse : {P : Type 0} → ◌≡◌ {A = Bool} false true → P
    refuse r = absurd (omega (arith, ap bit r))

    pub marking_far : (met' : List Bool) → f ≤ x → Marks f all met₀ met' false
    marking_far met' h =
        record {
          decided = λ w. omega (arith, w.below x (omega (arith, m.far x h, ap (tally x) e, tally_same x xs)));
          marked = λ r. refuse r;
        }
