-- The counters of the posters, and sums over all posters (document 02, No. 2). Assumes nothing.
use mathlib.Core.Path.{◌≡◌, refl}
use mathlib.Core.Bool.{Bool, true, false, cond}
use mathlib.Core.List.{List}
use Prim.Native.Nat.{ℕ, zero, suc, ◌+◌, ◌≤◌, ◌<◌, min}
use native.Mathlib.Omega.{arith}
use lib.Dec.{eqb, ltb}
use lib.ListN.{length, get_or, set, replicate, length-set}
use lib.Seq.{get_or-set_same, get_or-set_other, set_out}
use borrow.Author.Tests.{eqb-true, eqb-false, ne_eqb, ltb-true, ltb-false}
use Rattle.steps.specs.State.{max_taken, posters, counting}
use Rattle.steps.specs.Accounting.{by, nobody, sum_to, total}

-- ---- a counter

pub counting_length : (p : ℕ) (t : List ℕ) → length (counting p t) ≡ length t
counting_length p t = simp length-set refl

-- the poster's own counter has one more, up to the ceiling, and every other is as it was
pub counting_at : (p q : ℕ) (t : List ℕ) → p < length t → get_or t q 0 ≤ max_taken → get_or (counting p t) q 0 ≡ min (get_or t q 0 + by p q) max_taken
counting_at p q t h w = go (eqb q p) refl
  where
    n : ℕ
    n = min (get_or t p 0 + 1) max_taken

    go : (b : Bool) → eqb q p ≡ b → get_or (set t p n) q 0 ≡ min (get_or t q 0 + cond b 1 0) max_taken
    go true e = rw (eqb-true q p e) (get_or-set_same t p n 0 h)
    go false e = omega (arith, get_or-set_other t p q n 0 (eqb-false q p e))

pub counting_within : (p : ℕ) (t : List ℕ) → ((q : ℕ) → get_or t q 0 ≤ max_taken) → (q : ℕ) → get_or (counting p t) q 0 ≤ max_taken
counting_within p t w q = go (eqb q p) (ltb p (length t)) refl refl
  where
    n : ℕ
    n = min (get_or t p 0 + 1) max_taken

    go : (b c : Bool) → eqb q p ≡ b → ltb p (length t) ≡ c → get_or (set t p n) q 0 ≤ max_taken
    go true true e f = rw (eqb-true q p e) (omega (arith, get_or-set_same t p n 0 (ltb-true p (length t) f)))
    go true false e f = rw (set_out t p n (ltb-false p (length t) f)) (w q)
    go false c e f = omega (arith, w q, get_or-set_other t p q n 0 (eqb-false q p e))

-- an array of one value has it everywhere
pub repeated : (A : Type 0) (n q : ℕ) (a : A) → get_or (replicate n a) q a ≡ a
repeated A zero q a = refl
repeated A (suc n) zero a = refl
repeated A (suc n) (suc q) a = repeated A n q a

pub none_taken : (n q : ℕ) → get_or (replicate n 0) q 0 ≤ max_taken
none_taken n q = omega (arith, repeated ℕ n q 0)

-- ---- sums

sum_plus : (n : ℕ) (f g : ℕ → ℕ) → sum_to n (λ q. f q + g q) ≡ sum_to n f + sum_to n g
unfolding sum_to
sum_plus zero f g = refl
sum_plus (suc n) f g = omega (arith, sum_plus n f g)

sum_nobody : (n : ℕ) → sum_to n nobody ≡ 0
unfolding sum_to
sum_nobody zero = refl
sum_nobody (suc n) = omega (arith, sum_nobody n)

-- one round is one, of a poster below n, and none of any other
sum_past : (n p : ℕ) → n ≤ p → sum_to n (by p) ≡ 0
unfolding sum_to
sum_past zero p h = refl
sum_past (suc n) p h = rw (ne_eqb n p (λ e. omega arith)) (omega (arith, sum_past n p (omega arith)))

sum_one : (n p : ℕ) → p < n → sum_to n (by p) ≡ 1
unfolding sum_to
sum_one zero p h = omega arith
sum_one (suc n) p h = go (eqb n p) refl (sum_one n p)
  where
    go : (b : Bool) → eqb n p ≡ b → (p < n → sum_to n (by p) ≡ 1) → sum_to n (by p) + cond b 1 0 ≡ 1
    go true e below = omega (arith, sum_past n p (omega (arith, eqb-true n p e)))
    go false e below = omega (arith, below (omega (arith, eqb-false n p e)))

pub total_plus : (f g : ℕ → ℕ) → total (λ q. f q + g q) ≡ total f + total g
total_plus f g = sum_plus posters f g

pub total_nobody : total nobody ≡ 0
total_nobody = sum_nobody posters

pub total_by : (p : ℕ) → ltb 15 p ≡ false → total (by p) ≡ 1
total_by p h = sum_one posters p (omega (arith, ltb-false 15 p h))
