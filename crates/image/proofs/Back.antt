-- Bytes written and read back, and read and written back. Assumes nothing.
use Prim.Native.Nat.{ℕ, zero, suc, ◌+◌, ◌*◌, ◌≤◌, ◌<◌, ◌/◌, ◌%◌, ◌^◌}
use mathlib.Core.Path.{◌≡◌, refl, sym, ap}
use mathlib.Core.List.{List, [], ◌∷◌, ◌++◌, map, append_assoc}
use native.Mathlib.Omega.{arith}
use lib.ListN.{length, take, drop, length-drop}
use lib.Seq.{take-add}
use Rattle.fnv.specs.Fnv.{bytes}
use Rattle.steps.specs.State.{Pair}
use Rattle.image.specs.Bytes.{array, number, numbers, AllBytes, Words}
use Rattle.image.specs.Image.{pair_up}
use Rattle.image.proofs.Layouts.{drop_bytes}

-- ---- written and read

-- x has no more than w bytes
abbrev Fits : ℕ → ℕ → Type 0
Fits zero x = x ≡ 0
Fits (suc w) x = Fits w (x / 256)

pub fits_four : (x : ℕ) → x < 4294967296 → Fits 4 x
fits_four x h = omega arith

pub fits_eight : (x : ℕ) → x < 2 ^ 64 → Fits 8 x
fits_eight x h =
    let a : x / 256 < 2 ^ 56 = omega arith in
    let b : x / 256 / 256 < 2 ^ 48 = omega (arith, a) in
    let c : x / 256 / 256 / 256 < 2 ^ 40 = omega (arith, b) in
    let d : x / 256 / 256 / 256 / 256 < 4294967296 = omega (arith, c) in
    fits_four (x / 256 / 256 / 256 / 256) d

pub number_bytes : (w x : ℕ) (rest : List ℕ) → Fits w x → number w (bytes w x ++ rest) ≡ x
unfolding number bytes
number_bytes zero x rest h = sym h
number_bytes (suc w) x rest h = omega (arith, number_bytes w (x / 256) rest h)

-- numbers of 64 bits
abbrev pub Longs : List ℕ → Type 0
Longs [] = Unit {0}
Longs (x ∷ xs) = (x < 2 ^ 64) × Longs xs

pub numbers_array : (xs rest : List ℕ) → Longs xs → numbers (length xs) (array xs ++ rest) ≡ xs
numbers_array [] rest h = refl
numbers_array (x ∷ xs) rest h =
    let first : number 8 ((bytes 8 x ++ array xs) ++ rest) ≡ x = rw append_assoc (number_bytes 8 x (array xs ++ rest) (fits_eight x h.0)) in
    let left : drop 8 ((bytes 8 x ++ array xs) ++ rest) ≡ array xs ++ rest = rw append_assoc (drop_bytes 8 x (array xs ++ rest)) in
    rw (first, left, numbers_array xs rest h.1)

pub long_keys : (ps : List Pair) → Words ps → Longs (map (λ p. p.key) ps)
long_keys [] w = w
long_keys (p ∷ ps) w = (w.0, long_keys ps w.2)

pub long_values : (ps : List Pair) → Words ps → Longs (map (λ p. p.value) ps)
long_values [] w = w
long_values (p ∷ ps) w = (w.1, long_values ps w.2)

pub paired : (ps : List Pair) → pair_up (map (λ p. p.key) ps) (map (λ p. p.value) ps) ≡ ps
paired [] = refl
paired (p ∷ ps) = ap (λ (l : List Pair). p ∷ l) (paired ps)

-- ---- read and written

drop_all_bytes : (n : ℕ) (s : List ℕ) → AllBytes s → AllBytes (drop n s)
drop_all_bytes zero s h = h
drop_all_bytes (suc n) [] h = h
drop_all_bytes (suc n) (b ∷ s) h = drop_all_bytes n s h.1

pub bytes_number : (w : ℕ) (s : List ℕ) → w ≤ length s → AllBytes s → bytes w (number w s) ≡ take w s
unfolding number bytes
bytes_number zero s l h = refl
bytes_number (suc w) [] l h = absurd (omega arith)
bytes_number (suc w) (b ∷ s) l h =
    let low : (b + 256 * number w s) % 256 ≡ b = omega (arith, h.0) in
    let high : (b + 256 * number w s) / 256 ≡ number w s = omega (arith, h.0) in
    rw (low, high, bytes_number w s (omega arith) h.1)

pub array_numbers : (n : ℕ) (s : List ℕ) → 8 * n ≤ length s → AllBytes s → array (numbers n s) ≡ take (8 * n) s
array_numbers zero s l h = refl
array_numbers (suc n) s l h =
    let e : 8 * suc n ≡ 8 + 8 * n = omega arith in
    let some : 8 ≤ length s = omega arith in
    let rest : 8 * n ≤ length (drop 8 s) = omega (arith, length-drop 8 s) in
    rw (e, bytes_number 8 s some h, array_numbers n (drop 8 s) rest (drop_all_bytes 8 s h)) (sym (take-add 8 (8 * n) s))

pub bytes_at : (w p : ℕ) (s : List ℕ) → p + w ≤ length s → AllBytes s → bytes w (number w (drop p s)) ≡ take w (drop p s)
bytes_at w p s l h = bytes_number w (drop p s) (omega (arith, length-drop p s)) (drop_all_bytes p s h)

pub array_at : (n p : ℕ) (s : List ℕ) → p + 8 * n ≤ length s → AllBytes s → array (numbers n (drop p s)) ≡ take (8 * n) (drop p s)
array_at n p s l h = array_numbers n (drop p s) (omega (arith, length-drop p s)) (drop_all_bytes p s h)
