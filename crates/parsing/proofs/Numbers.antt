-- Laws of digits read from the front. Assumes nothing.
use Prim.Native.Nat.{ℕ, ◌+◌, ◌*◌, ◌-◌, ◌^◌, ◌≤◌, ◌<◌}
use mathlib.Core.Path.{◌≡◌, refl, sym, ◌∙◌}
use mathlib.Core.Bool.{Bool, true, false, cond, ◌&&◌}
use mathlib.Core.List.{List, [], ◌∷◌}
use native.Mathlib.Omega.{arith}
use borrow.Author.Tests.{le-ltb, ltb-false}
use native.Mathlib.Numerals.{add-one}
use lib.Dec.{ltb}
use lib.ListN.{length, get_or, drop}
use lib.Seq.{drop-cons}
use Rattle.std.specs.Prelude.{Some, None, ◌==◌}
use Rattle.std.specs.Char.{is_ascii_digit}
use Rattle.std.specs.List.{list_all}
use Rattle.parsing.specs.Line.{value_of, number_from, number_of}

-- digits after others come to no less
grows : (n : ℕ) (bs : List ℕ) → n ≤ value_of n bs
grows n [] = omega arith
grows n (b ∷ bs) = omega (arith, grows (10 * n + (b - 48)) bs)

-- a byte that is no digit, or too much
stops_when : (n : ℕ) (bs : List ℕ) (a d t : Bool) → ltb n (2 ^ 64) ≡ t → None ≡ cond (d && true && t) (Some n) None
    → None ≡ cond (d && a && ltb (value_of n bs) (2 ^ 64)) (Some (value_of n bs)) None
stops_when n bs a false t e h = refl
stops_when n bs a true true e h = grind arith
stops_when n bs true true false e h = rw (le-ltb (value_of n bs) (2 ^ 64) (omega (arith, grows n bs, ltb-false n (2 ^ 64) e)))
stops_when n bs false true false e h = refl

stops : (n b : ℕ) (bs : List ℕ) → None ≡ number_from n (b ∷ []) → None ≡ number_from n (b ∷ bs)
stops n b bs h = stops_when (10 * n + (b - 48)) bs (list_all is_ascii_digit bs) (is_ascii_digit b) (ltb (10 * n + (b - 48)) (2 ^ 64)) refl h

-- at the byte at i
pub off : (s : List ℕ) (n i : ℕ) → i < length s → None ≡ number_from n (get_or s i 0 ∷ []) → None ≡ number_from n (drop i s)
off s n i h e =
    let here : number_from n (drop i s) ≡ number_from n (get_or s i 0 ∷ drop (i + 1) s) = rw (add-one i, drop-cons s i 0) in
    stops n (get_or s i 0) (drop (i + 1) s) e ∙ sym here

pub some_digits : (s : List ℕ) → (length s == 0) ≡ false → number_from 0 s ≡ number_of s
some_digits [] e = absurd (grind arith)
some_digits (b ∷ bs) e = refl
