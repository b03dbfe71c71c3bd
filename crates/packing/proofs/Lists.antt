-- Lists of places that hold each once, and the places from 0 on. Assumes nothing.
use Prim.Native.Nat.{ℕ, zero, suc, ◌+◌, ◌<◌}
use mathlib.Core.Path.{◌≡◌, refl, sym, ap, ◌∙◌, subst}
use mathlib.Core.Logic.{◌≢◌, ⊎_elim}
use mathlib.Core.List.{List, [], ◌∷◌, ◌++◌, map}
use native.Mathlib.Omega.{arith}
use lib.ListN.{length, get_or, length-map, get_or-map}
use Rattle.links.specs.Route.{tally, walk}
use Rattle.links.proofs.Routes.{same_or_not, tally_same, tally_other, Once}
use Rattle.links.proofs.Lists.{length_walk}
use Rattle.multimap.proofs.Copies.{get_d_in}
use Rattle.multimap.proofs.Stores.{map-append}
use Rattle.packing.specs.Building.{up_to}

-- ---- the i-th place of a list

pub nth_any : (xs : List ℕ) (i d e : ℕ) → i < length xs → get_or xs i d ≡ get_or xs i e
nth_any [] i d e h = absurd (omega arith)
nth_any (x ∷ xs) zero d e h = refl
nth_any (x ∷ xs) (suc i) d e h = nth_any xs i d e (omega arith)

pub nth_map : (f : ℕ → ℕ) (xs : List ℕ) (i : ℕ) {out : List ℕ} → out ≡ map f xs → i < length xs → get_or out i 0 ≡ f (get_or xs i 0)
nth_map f xs i e h = rw e (nth_any (map f xs) i 0 (f 0) (rw (length-map xs f) h) ∙ get_or-map f xs i 0)

pub nth_apart : (xs : List ℕ) (i j d : ℕ) → Once xs → i < j → j < length xs → get_or xs i d ≢ get_or xs j d
nth_apart [] i j d o h k e = omega arith
nth_apart (x ∷ xs) i zero d o h k e = omega arith
nth_apart (x ∷ xs) zero (suc j) d o h k e =
    omega (arith, o x, tally_same x xs, subst (λ (y : ℕ). 0 < tally y xs) (sym e) (get_d_in xs j d (omega arith)))
nth_apart (x ∷ xs) (suc i) (suc j) d o h k e = nth_apart xs i j d (λ q. omega (arith, o q)) (omega arith) (omega arith) e

-- where a place stands
pub record Stands (q : ℕ) (xs : List ℕ) : Type 0 where
  pub index : ℕ
  pub inside : index < length xs
  pub is : get_or xs index 0 ≡ q

pub stands : (q : ℕ) (xs : List ℕ) → 0 < tally q xs → Stands q xs
stands q [] h = absurd (omega arith)
stands q (x ∷ xs) h =
    ⊎_elim (λ (e : q ≡ x). record { index = 0; inside = omega arith; is = sym e })
    (λ (e : q ≢ x).
    let s = stands q xs (omega (arith, tally_other q x xs e)) in
    record { index = suc s.index; inside = omega (arith, s.inside); is = s.is })
    (same_or_not q x)

-- ---- the places from 0 on

from_more : (s n : ℕ) → walk suc s (suc n) ≡ walk suc s n ++ (s + n) ∷ []
from_more s zero = let e : s ≡ s + 0 = omega arith in ap (λ (y : ℕ). y ∷ []) e
from_more s (suc n) =
    let e : suc s + n ≡ s + suc n = omega arith in
    ap (λ (l : List ℕ). s ∷ l) (from_more (suc s) n ∙ ap (λ (y : ℕ). walk suc (suc s) n ++ y ∷ []) e)

pub up_more : (n : ℕ) → up_to (n + 1) ≡ up_to n ++ n ∷ []
up_more n =
    let e : n + 1 ≡ suc n = omega arith in
    let f : 0 + n ≡ n = omega arith in
    ap up_to e ∙ from_more 0 n ∙ ap (λ (y : ℕ). up_to n ++ y ∷ []) f

pub map_more : {A : Type 0} (f : ℕ → A) (n : ℕ) → map f (up_to (n + 1)) ≡ map f (up_to n) ++ f n ∷ []
map_more f n = ap (map f) (up_more n) ∙ map-append f (up_to n) (n ∷ [])

pub length_up : (n : ℕ) → length (up_to n) ≡ n
length_up n = length_walk suc 0 n

nth_from : (s n i : ℕ) → i < n → get_or (walk suc s n) i 0 ≡ s + i
nth_from s zero i h = absurd (omega arith)
nth_from s (suc n) zero h = omega arith
nth_from s (suc n) (suc i) h = nth_from (suc s) n i (omega arith) ∙ omega arith

pub nth_up : (n i : ℕ) → i < n → get_or (up_to n) i 0 ≡ i
nth_up n i h = nth_from 0 n i h ∙ omega arith

pub below_in : (n k : ℕ) → k < n → 0 < tally k (up_to n)
below_in n k h = subst (λ (y : ℕ). 0 < tally y (up_to n)) (nth_up n k h) (get_d_in (up_to n) k 0 (rw (length_up n) h))

pub in_below : (n k : ℕ) → 0 < tally k (up_to n) → k < n
in_below n k h =
    let s = stands k (up_to n) h in
    let i : s.index < n = rw (length_up n) at s.inside in
    omega (arith, sym (nth_up n s.index i) ∙ s.is)

-- what f makes of the places from s on, and g of a list's
module _ {A : Type 0} (f g : ℕ → A) where
  map_from : (s : ℕ) (xs : List ℕ) → ((i : ℕ) → i < length xs → f (s + i) ≡ g (get_or xs i 0)) → map f (walk suc s (length xs)) ≡ map g xs
  map_from s [] h = refl
  map_from s (x ∷ xs) h =
      let e : s ≡ s + 0 = omega arith in
      let first : f s ≡ g x = ap f e ∙ h 0 (omega arith) in
      let rest = map_from (suc s) xs (λ i l. let e : suc s + i ≡ s + suc i = omega arith in ap f e ∙ h (suc i) (omega arith)) in
      rw (first, rest)

  pub map_up : (n : ℕ) (xs : List ℕ) → length xs ≡ n → ((i : ℕ) → i < n → f i ≡ g (get_or xs i 0)) → map f (up_to n) ≡ map g xs
  map_up n xs e h =
      ap (λ (k : ℕ). map f (up_to k)) (sym e) ∙ map_from 0 xs (λ i l. let z : 0 + i ≡ i = omega arith in ap f z ∙ h i (omega arith))

-- functions that make the same of the places from 0 on
pub map_same_up : (f g : ℕ → ℕ) (n : ℕ) → map f (up_to n) ≡ map g (up_to n) → (i : ℕ) → i < n → f i ≡ g i
map_same_up f g n e i h =
    let long : length (map g (up_to n)) ≡ n = length-map (up_to n) g ∙ length_up n in
    sym (ap f (nth_up n i h)) ∙ sym (get_or-map f (up_to n) i 0)
    ∙ ap (λ (l : List ℕ). get_or l i (f 0)) e
    ∙ nth_any (map g (up_to n)) i (f 0) (g 0) (rw long h)
    ∙ get_or-map g (up_to n) i 0 ∙ ap g (nth_up n i h)
