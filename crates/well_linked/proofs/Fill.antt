-- As many different numbers below f as there are: each stands once. Assumes nothing.
use Prim.Native.Nat.{ℕ, zero, suc, ◌+◌, ◌≤◌, ◌<◌}
use mathlib.Core.Path.{◌≡◌, refl, sym, ap}
use mathlib.Core.Logic.{◌≢◌, ⊎_elim}
use mathlib.Core.Bool.{Bool, true, false, not}
use mathlib.Core.List.{List, [], ◌∷◌}
use native.Mathlib.Omega.{arith}
use borrow.Author.Tests.{eq-eqb, ne_eqb, lt-ltb, le-ltb}
use lib.Dec.{eqb, ltb}
use lib.ListN.{length}
use Rattle.index.proofs.Pigeon.{less_or_not}
use Rattle.links.specs.Route.{pick, bit, tally, without}
use Rattle.links.proofs.Routes.{same_or_not, tally_same, tally_hit, tally_other, tally_keep, Once}
use Rattle.links.proofs.Chains.{of_without}

length_without : (x : ℕ) (xs : List ℕ) → length (without x xs) + tally x xs ≡ length xs
length_without x [] = refl
length_without x (y ∷ ys) =
    ⊎_elim (λ (e : x ≡ y). rw (eq-eqb y x (sym e), tally_hit x y ys e) (omega (arith, length_without x ys)))
    (λ (e : x ≢ y). rw (ne_eqb y x (λ i. e (sym i)), tally_other x y ys e) (omega (arith, length_without x ys))) (same_or_not x y)

without_once : (x q : ℕ) (xs : List ℕ) → tally q (without x xs) ≤ tally q xs
without_once x q xs = go (not (eqb q x)) (tally_keep (λ y. not (eqb y x)) q xs)
  where
    go : (b : Bool) → tally q (without x xs) ≡ pick b (tally q xs) 0 → tally q (without x xs) ≤ tally q xs
    go true e = omega arith
    go false e = omega arith

-- different numbers below f are at most f
few : (f : ℕ) (xs : List ℕ) → Once xs → ((q : ℕ) → 0 < tally q xs → q < f) → length xs ≤ f
few zero [] o b = omega arith
few zero (x ∷ xs) o b = absurd (omega (arith, b x (rw tally_same (omega arith))))
few (suc f) xs o b =
    let h =
    few f (without f xs) (λ q. omega (arith, o q, without_once f q xs))
    (λ q i. let w = of_without f q xs i in omega (arith, b q w.0, below q (b q w.0) w.1)) in
    omega (arith, h, o f, length_without f xs)
  where
    below : (q : ℕ) → q < suc f → q ≢ f → q < f
    below q l ne = ⊎_elim (λ (i : q < f). i) (λ (i : f ≤ q). absurd (ne (omega arith))) (less_or_not q f)

pub filled : (f : ℕ) (xs : List ℕ) → Once xs → ((q : ℕ) → 0 < tally q xs → q < f) → length xs ≡ f → (q : ℕ) → tally q xs ≡ bit (ltb q f)
filled f xs o b e q = ⊎_elim (λ (h : q < f). rw (lt-ltb q f h) (inside h)) (λ (h : f ≤ q). rw (le-ltb q f h) (outside h)) (less_or_not q f)
  where
    -- q besides would be one more
    missing : tally q xs ≡ 0 → q < f → ⊥
    missing z h =
        omega (
          arith,
          few f (q ∷ xs)
              (λ y. ⊎_elim (λ (i : y ≡ q). rw (tally_hit y q xs i) (omega (arith, z, ap (λ (j : ℕ). tally j xs) i)))
              (λ (i : y ≢ q). rw (tally_other y q xs i) (o y)) (same_or_not y q))
              (λ y k. ⊎_elim (λ (i : y ≡ q). omega arith) (λ (i : y ≢ q). b y (omega (arith, tally_other y q xs i))) (same_or_not y q)),
        )

    inside : q < f → tally q xs ≡ 1
    inside h =
        ⊎_elim (λ (z : tally q xs < 1). absurd (missing (omega arith) h))
        (λ (z : 1 ≤ tally q xs). omega (arith, o q)) (less_or_not (tally q xs) 1)

    outside : f ≤ q → tally q xs ≡ 0
    outside h =
        ⊎_elim (λ (z : tally q xs < 1). omega arith)
        (λ (z : 1 ≤ tally q xs). absurd (omega (arith, b q (omega arith)))) (less_or_not (tally q xs) 1)
