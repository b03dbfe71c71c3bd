-- The digits that `io::decimal` writes are the number's text, and a text of so many digits is at most so long. Assumes nothing.
use Prim.Native.Nat.{ℕ, zero, suc, ◌+◌, ◌*◌, ◌-◌, ◌/◌, ◌%◌, ◌^◌, ◌≤◌, ◌<◌}
use mathlib.Core.Path.{◌≡◌, refl, sym, ap, ◌∙◌}
use mathlib.Core.Bool.{Bool, true, false, cond}
use mathlib.Core.List.{List, [], ◌∷◌, ◌++◌}
use native.Mathlib.Omega.{arith}
use native.Mathlib.Nat.{pow-suc, one-le-pow, pow-le-pow_right}
use native.Mathlib.Numerals.{sub-one}
use borrow.Author.Tests.{lt-ltb, le-ltb, leb-true, leb-false}
use lib.Dec.{ltb, leb}
use lib.ListN.{length, length-append}
use Rattle.io.specs.Digits.{hex_digit_ascii, last_digits, IsDigitCount}
use Rattle.printing.specs.Text.{decimal_of}

glyph_digit : (n : ℕ) → n < 10 → hex_digit_ascii n ≡ 48 + n
glyph_digit n h = rw (lt-ltb n 10 h)

unfolded_small : (most n : ℕ) → n < 10 → decimal_of (suc most) n ≡ (48 + n) ∷ []
unfolding decimal_of
unfolded_small most n h = rw (lt-ltb n 10 h)

unfolded_large : (most n : ℕ) → 10 ≤ n → decimal_of (suc most) n ≡ decimal_of most (n / 10) ++ ((48 + n % 10) ∷ [])
unfolding decimal_of
unfolded_large most n h = rw (le-ltb n 10 h)

pub digits_decimal : (k most n : ℕ) → k ≤ most → IsDigitCount 10 1 n k → last_digits 10 k n ≡ decimal_of most n
digits_decimal zero most n h f = let z : 1 ≤ 0 = f.0 in absurd (omega arith)
digits_decimal (suc zero) zero n h f = absurd (omega arith)
digits_decimal (suc zero) (suc most) n h f =
    let small : n < 10 = f.1 in
    let e : n % 10 ≡ n = omega arith in
    ap (λ (d : ℕ). hex_digit_ascii d ∷ []) e ∙ ap (λ (d : ℕ). d ∷ []) (glyph_digit n small) ∙ sym (unfolded_small most n small)
digits_decimal (suc (suc j)) zero n h f = absurd (omega arith)
digits_decimal (suc (suc j)) (suc most) n h f =
    let p : 10 ^ suc (suc j) ≡ 10 ^ suc j * 10 = pow-suc 10 (suc j) in
    let q : 10 ^ suc j ≡ 10 ^ j * 10 = pow-suc 10 j in
    let i : suc (suc j) - 1 ≡ suc j = omega arith in
    let top : n < 10 ^ suc j * 10 = rw p at f.1 in
    let low : 10 ^ suc j ≤ n = rw i at (f.2 (omega arith)) in
    let pos : 1 ≤ 10 ^ j = one-le-pow j 10 (omega arith) in
    let some : 10 ≤ n = omega arith in
    let below : n / 10 < 10 ^ suc j = omega arith in
    let above : 1 < suc j → 10 ^ (suc j - 1) ≤ n / 10 = λ g. rw sub-one (omega arith) in
    let r : last_digits 10 (suc j) (n / 10) ≡ decimal_of most (n / 10) = digits_decimal (suc j) most (n / 10) (omega arith) (omega arith, below, above) in
    ap (λ (l : List ℕ). l ++ (hex_digit_ascii (n % 10) ∷ [])) r
    ∙ ap (λ (d : ℕ). decimal_of most (n / 10) ++ (d ∷ [])) (glyph_digit (n % 10) (omega arith))
    ∙ sym (unfolded_large most n some)

cond_long : (b : Bool) (x y : List ℕ) (m : ℕ) → length x ≤ m → length y ≤ m → length (cond b x y) ≤ m
cond_long true x y m h g = h
cond_long false x y m h g = g

pub decimal_long : (most n : ℕ) → length (decimal_of most n) ≤ most
unfolding decimal_of
decimal_long zero n = omega arith
decimal_long (suc most) n =
    cond_long (ltb n 10) ((48 + n) ∷ []) (decimal_of most (n / 10) ++ ((48 + n % 10) ∷ [])) (suc most) (omega arith)
    (omega (arith, length-append (decimal_of most (n / 10)) ((48 + n % 10) ∷ []), decimal_long most (n / 10)))

-- a number below 2^64 has at most 20 digits
few_when : (n k : ℕ) (b : Bool) → leb k 20 ≡ b → n < 2 ^ 64 → IsDigitCount 10 1 n k → k ≤ 20
few_when n k true e h f = leb-true k 20 e
few_when n k false e h f =
    let more : 20 < k = leb-false k 20 e in
    let most : 20 ≤ k - 1 = omega arith in
    let large : 10 ^ 20 ≤ 10 ^ (k - 1) = pow-le-pow_right {n = 10} (omega arith) most in
    absurd (omega (arith, f.2 (omega arith)))

pub few : (n k : ℕ) → n < 2 ^ 64 → IsDigitCount 10 1 n k → k ≤ 20
few n k h f = few_when n k (leb k 20) refl h f
