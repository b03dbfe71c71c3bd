-- Where the first of a byte stands, and what stands before it. Assumes nothing.
use Prim.Native.Nat.{ℕ, suc, ◌+◌, ◌≤◌, ◌<◌}
use mathlib.Core.Path.{◌≡◌, refl, sym, ◌∙◌}
use mathlib.Core.Bool.{Bool, true, false, cond}
use mathlib.Core.List.{List, [], ◌∷◌}
use native.Mathlib.Omega.{arith}
use borrow.Author.Tests.{ltb-true, ltb-false}
use lib.Dec.{eqb, ltb}
use lib.ListN.{length}
use Rattle.std.specs.Prelude.{Some, None, unwrap_or}
use Rattle.std.specs.List.{position_or_len}
use Rattle.std.proofs.lemmas.List.Recursion.{is_position_or_len}
use Rattle.parsing.specs.Split.{gap, find}

gap_is : (b : ℕ) (s : List ℕ) → gap b s ≡ position_or_len (λ x. eqb x b) s
unfolding gap
gap_is b s =
    is_position_or_len (gap b) (λ x. eqb x b) refl
    (λ x xs. let e : suc (gap b xs) ≡ 1 + gap b xs = omega arith in rw e refl)
    s

find_is : (b : ℕ) (s : List ℕ) → find b s ≡ cond (ltb (gap b s) (length s)) (Some (gap b s)) None
find_is b s = rw (gap_is b s) refl

le_when : (b : ℕ) (xs : List ℕ) (t : Bool) → gap b xs ≤ length xs → cond t 0 (suc (gap b xs)) ≤ suc (length xs)
le_when b xs true h = omega arith
le_when b xs false h = omega arith

pub gap_le : (b : ℕ) (s : List ℕ) → gap b s ≤ length s
unfolding gap
gap_le b [] = omega arith
gap_le b (x ∷ xs) = le_when b xs (eqb x b) (gap_le b xs)

-- b stands at n
pub record Found (b : ℕ) (s : List ℕ) (n : ℕ) : Type 0 where
  pub is : n ≡ gap b s
  pub within : n < length s

found_when : (g l n : ℕ) (t : Bool) → ltb g l ≡ t → cond t (Some g) None ≡ Some n → (n ≡ g) × (g < l)
found_when g l n true e h = (grind arith, ltb-true g l e)
found_when g l n false e h = absurd (grind arith)

pub found : (b : ℕ) (s : List ℕ) (n : ℕ) → find b s ≡ Some n → Found b s n
found b s n h =
    let f = found_when (gap b s) (length s) n (ltb (gap b s) (length s)) refl (sym (find_is b s) ∙ h) in
    record { is = f.0; within = omega (arith, f.0, f.1) }

none_when : (g l : ℕ) (t : Bool) → ltb g l ≡ t → g ≤ l → cond t (Some g) None ≡ None → g ≡ l
none_when g l true e k h = absurd (grind arith)
none_when g l false e k h = omega (arith, ltb-false g l e)

pub not_found : (b : ℕ) (s : List ℕ) → find b s ≡ None → gap b s ≡ length s
not_found b s h = none_when (gap b s) (length s) (ltb (gap b s) (length s)) refl (gap_le b s) (sym (find_is b s) ∙ h)

before_when : (g l : ℕ) (t : Bool) → ltb g l ≡ t → g ≤ l → unwrap_or (cond t (Some g) None) l ≡ g
before_when g l true e k = refl
before_when g l false e k = omega (arith, ltb-false g l e)

pub before : (b : ℕ) (s : List ℕ) → unwrap_or (find b s) (length s) ≡ gap b s
before b s = rw (find_is b s) (before_when (gap b s) (length s) (ltb (gap b s) (length s)) refl (gap_le b s))
