-- A list of places that a walk gives one after the other. Assumes nothing.
use Prim.Native.Nat.{ℕ, suc, ◌+◌, ◌-◌, ◌<◌}
use mathlib.Core.Path.{◌≡◌, sym, ap, ◌∙◌}
use mathlib.Core.List.{List, [], ◌∷◌}
use native.Mathlib.Omega.{arith}
use native.Mathlib.Numerals.{add-one}
use lib.ListN.{length, get_or, drop}
use lib.Seq.{drop-cons}
use Rattle.links.specs.Route.{walk}

-- a walk of k places of which i are behind: the next one
pub walk_more : {P : Type 0} (n : P → P) (s : P) (k i : ℕ) → i < k → walk n s (k - i) ≡ s ∷ walk n (n s) (k - (i + 1))
walk_more n s k i h = let e : k - i ≡ suc (k - (i + 1)) = omega arith in ap (walk n s) e

-- of the places xs the first i are given, and ws are left
pub record Passed {P : Type 0} (xs : List P) (i : ℕ) (ws : List P) : Type 0 where
  pub many : i + length ws ≡ length xs
  pub left : ws ≡ drop i xs

pub passed_none : {P : Type 0} {xs ws : List P} → ws ≡ xs → Passed xs 0 ws
passed_none e = record { many = omega (arith, ap length e); left = e }

module _ {P : Type 0} {xs : List P} {i : ℕ} {ws : List P} (t : Passed xs i ws) where
  pub passed_all : ws ≡ [] → i ≡ length xs
  passed_all e = omega (arith, t.many, ap length e)

  -- the next place is x
  module _ {x : P} {ws' : List P} (e : ws ≡ x ∷ ws') where
    pub more : i < length xs
    more = omega (arith, t.many, ap length e)

    here : (d : P) → x ∷ ws' ≡ get_or xs i d ∷ drop (i + 1) xs
    here d = sym e ∙ t.left ∙ rw add-one (drop-cons xs i d more)

    pub place_is : (d : P) → x ≡ get_or xs i d
    place_is d = cc (here d)

    pub passed_one : {i' : ℕ} → i' ≡ i + 1 → Passed xs i' ws'
    passed_one z = rw z (record { many = omega (arith, t.many, ap length e); left = cc (here x) })
