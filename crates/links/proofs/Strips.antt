-- Laws of a list without the places of another, and of tests made one after the other. Assumes nothing.
use Prim.Native.Nat.{ℕ, ◌+◌, ◌<◌, ◌≤◌}
use mathlib.Core.Path.{◌≡◌, refl, sym, ap, ◌∙◌}
use mathlib.Core.Bool.{Bool, true, false, not, ◌&&◌}
use mathlib.Core.List.{List, [], ◌∷◌}
use native.Mathlib.Omega.{arith}
use borrow.Author.Tests.{eq-eqb, ne_eqb}
use lib.Dec.{eqb}
use lib.ListN.{length}
use Rattle.links.specs.Route.{pick, bit, tally, keep, without, strip}
use Rattle.links.proofs.Routes.{keep_all, keep_same, tally_keep, length_keep}

keep_fuse : (f g : ℕ → Bool) (xs : List ℕ) → keep f (keep g xs) ≡ keep (λ q. g q && f q) xs
keep_fuse f g [] = refl
keep_fuse f g (x ∷ xs) = go (g x) (keep_fuse f g xs)
  where
    go : (b : Bool) → keep f (keep g xs) ≡ keep (λ q. g q && f q) xs
        → keep f (pick b (x ∷ keep g xs) (keep g xs)) ≡ pick (b && f x) (x ∷ keep (λ q. g q && f q) xs) (keep (λ q. g q && f q) xs)
    go true e = ap (λ (l : List ℕ). pick (f x) (x ∷ l) l) e
    go false e = e

-- a list without the places ws: those that ws does not have
pub strip_keep : (ws vs : List ℕ) → strip ws vs ≡ keep (λ q. eqb (tally q ws) 0) vs
strip_keep [] vs = sym (keep_all (λ q. true) vs (λ q i. refl))
strip_keep (w ∷ ws) vs =
    strip_keep ws (without w vs) ∙ keep_fuse (λ q. eqb (tally q ws) 0) (λ q. not (eqb q w)) vs
    ∙ keep_same (λ q. not (eqb q w) && eqb (tally q ws) 0) (λ q. eqb (tally q (w ∷ ws)) 0) vs (λ q i. go q (eqb q w))
  where
    go : (q : ℕ) (b : Bool) → (not b && eqb (tally q ws) 0) ≡ eqb (bit b + tally q ws) 0
    go q true = sym (ne_eqb (1 + tally q ws) 0 (λ e. omega arith))
    go q false = let z : 0 + tally q ws ≡ tally q ws = omega arith in rw z

pub length_strip : (ws vs : List ℕ) → length (strip ws vs) ≤ length vs
length_strip ws vs = omega (arith, ap length (strip_keep ws vs), length_keep (λ q. eqb (tally q ws) 0) vs)

-- the places that pass a test taken out: those that don't pass it
pub strip_those : (f : ℕ → Bool) (vs : List ℕ) → strip (keep f vs) vs ≡ keep (λ q. not (f q)) vs
strip_those f vs = strip_keep (keep f vs) vs ∙ keep_same (λ q. eqb (tally q (keep f vs)) 0) (λ q. not (f q)) vs (λ q i. go q i (f q) (tally_keep f q vs))
  where
    go : (q : ℕ) → 0 < tally q vs → (b : Bool) → tally q (keep f vs) ≡ pick b (tally q vs) 0 → eqb (tally q (keep f vs)) 0 ≡ not b
    go q i true e = ne_eqb (tally q (keep f vs)) 0 (λ z. omega arith)
    go q i false e = eq-eqb (tally q (keep f vs)) 0 e

pub keep_neither : (f : ℕ → Bool) (xs : List ℕ) → keep f (keep (λ q. not (f q)) xs) ≡ []
keep_neither f [] = refl
keep_neither f (x ∷ xs) = go (f x) refl (keep_neither f xs)
  where
    go : (b : Bool) → f x ≡ b → keep f (keep (λ q. not (f q)) xs) ≡ [] → keep f (pick (not b) (x ∷ keep (λ q. not (f q)) xs) (keep (λ q. not (f q)) xs)) ≡ []
    go true u e = e
    go false u e = rw u e
