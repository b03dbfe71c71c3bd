-- The turns of the loops that write numbers, and pairs of them, one after another; and how long the texts are. Assumes nothing.
use Prim.Native.Nat.{ℕ, ◌+◌, ◌*◌, ◌≤◌, ◌<◌}
use mathlib.Core.Path.{◌≡◌, sym, ap, ap₂, ◌∙◌}
use mathlib.Core.List.{List, [], ◌∷◌, ◌++◌, append-nil}
use native.Mathlib.Omega.{arith}
use lib.ListN.{length, get_or, take, length-append, length-take}
use Rattle.std.specs.List.{flat_map, zip}
use Rattle.std.proofs.lemmas.List.{take_more}
use Rattle.std.proofs.lemmas.Grind.{flat_map-append}
use Rattle.std.proofs.lemmas.Slice.Zip.{length-zip, get_or-zip}
use Rattle.printing.specs.Text.{decimal, spaced, paired, values, pairs}
use Rattle.printing.proofs.Decimals.{decimal_long}

pub after_long : (m n : ℕ) → length (m ∷ decimal n) ≤ 21
after_long m n = omega (arith, decimal_long 20 n)

paired_long : (p : ℕ × ℕ) → length (paired p) ≤ 42
paired_long p = omega (arith, length-append (spaced p.0) (58 ∷ decimal p.1), after_long 32 p.0, after_long 58 p.1)

-- pieces that are at most so long
module _ {A : Type 0} (f : A → List ℕ) (most : ℕ) (h : (x : A) → length (f x) ≤ most) where
  pieces_long : (xs : List A) → length (flat_map f xs) ≤ most * length xs
  pieces_long [] = omega arith
  pieces_long (x ∷ xs) = omega (arith, length-append (f x) (flat_map f xs), h x, pieces_long xs)

-- a piece more
pub piece_more : {A : Type 0} (f : A → List ℕ) (xs : List A) (i : ℕ) (d : A) → i < length xs
    → flat_map f (take i xs) ++ f (get_or xs i d) ≡ flat_map f (take (i + 1) xs)
piece_more f xs i d h =
    ap (λ l. flat_map f (take i xs) ++ l) (sym (append-nil (f (get_or xs i d))))
    ∙ sym (flat_map-append f (take i xs) (get_or xs i d ∷ []))
    ∙ ap (flat_map f) (sym (take_more xs i d h))

-- a pair more
pub pair_more : (ks vs : List ℕ) (i k v : ℕ) → i < length ks → i < length vs → k ≡ get_or ks i 0 → v ≡ get_or vs i 0
    → flat_map paired (take i (zip ks vs)) ++ paired (k, v) ≡ flat_map paired (take (i + 1) (zip ks vs))
pair_more ks vs i k v h g d e =
    ap (λ (p : ℕ × ℕ). flat_map paired (take i (zip ks vs)) ++ paired p) (ap₂ (λ (a b : ℕ). (a, b)) d e ∙ sym (get_or-zip ks vs i (0, 0) h g))
    ∙ piece_more paired (zip ks vs) i (0, 0) (omega (arith, length-zip ks vs))

pub few_pairs : (ks vs : List ℕ) (i : ℕ) → i ≤ length ks → length (flat_map paired (take i (zip ks vs))) ≤ 42 * i
few_pairs ks vs i h = omega (arith, pieces_long paired 42 paired_long (take i (zip ks vs)), length-take i (zip ks vs))

pub values_long : (vs : List ℕ) → length (values vs) ≤ 21 * length vs
unfolding values
values_long vs = pieces_long spaced 21 (after_long 32) vs

pub pairs_long : (ks vs : List ℕ) → length (pairs ks vs) ≤ 42 * length ks
unfolding pairs
pairs_long ks vs = omega (arith, pieces_long paired 42 paired_long (zip ks vs), length-zip ks vs)
