-- Numbers read from bytes. Assumes nothing.
use Prim.Native.Nat.{ℕ, zero, suc, ◌+◌, ◌*◌, ◌-◌, ◌/◌, ◌≤◌, ◌<◌, min}
use mathlib.Core.Path.{◌≡◌, refl, sym, ap, ◌∙◌}
use mathlib.Core.List.{List, [], ◌∷◌}
use native.Mathlib.Omega.{arith}
use lib.ListN.{length, get_or, take, drop, length-drop}
use lib.Seq.{get_or-drop, drop-drop, take_all}
use Rattle.std.specs.Int.{w32, w64, from_le_bytes}
use Rattle.std.specs.Simd.{first_chunks}
use Rattle.std.proofs.lemmas.List.{get_or-take}
use Rattle.image.specs.Bytes.{number, numbers}

number_none : (s : List ℕ) → number 0 s ≡ 0
unfolding number
number_none s = refl

module _ (s : List ℕ) where
  -- the first byte, and the number in the others
  number_one : (w p : ℕ) → number (suc w) (drop p s) ≡ get_or s p 0 + 256 * number w (drop (p + 1) s)
  unfolding number
  number_one w p =
      let e : p + 0 ≡ p = omega arith in
      rw (get_or-drop p s 0 0, e, drop-drop 1 p s)

  pub four_is : (p : ℕ) → number 4 (drop p s) ≡ get_or s p 0 + 256 * get_or s (p + 1) 0 + 65536 * get_or s (p + 2) 0 + 16777216 * get_or s (p + 3) 0
  four_is p =
      let z : number 0 (drop (p + 3 + 1) s) ≡ 0 = number_none (drop (p + 3 + 1) s) in
      let e : p + 1 + 1 ≡ p + 2 = omega arith in
      let f : p + 2 + 1 ≡ p + 3 = omega arith in
      omega (
        arith,
        number_one 3 p,
        number_one 2 (p + 1) ∙ ap (λ (q : ℕ). get_or s (p + 1) 0 + 256 * number 2 (drop q s)) e,
        number_one 1 (p + 2) ∙ ap (λ (q : ℕ). get_or s (p + 2) 0 + 256 * number 1 (drop q s)) f,
        number_one 0 (p + 3),
      )

  pub eight_is : (p : ℕ) → number 8 (drop p s) ≡ number 4 (drop p s) + 4294967296 * number 4 (drop (p + 4) s)
  eight_is p =
      let e : p + 1 + 1 ≡ p + 2 = omega arith in
      let f : p + 2 + 1 ≡ p + 3 = omega arith in
      let g : p + 3 + 1 ≡ p + 4 = omega arith in
      omega (
        arith,
        four_is p,
        number_one 7 p,
        number_one 6 (p + 1) ∙ ap (λ (q : ℕ). get_or s (p + 1) 0 + 256 * number 6 (drop q s)) e,
        number_one 5 (p + 2) ∙ ap (λ (q : ℕ). get_or s (p + 2) 0 + 256 * number 5 (drop q s)) f,
        number_one 4 (p + 3) ∙ ap (λ (q : ℕ). get_or s (p + 3) 0 + 256 * number 4 (drop q s)) g,
      )

-- a number as the library reads it from its bytes
module _ (s : List ℕ) where
  pub eight_read : from_le_bytes w64 (take 8 s) ≡ number 8 s
  eight_read =
      omega (
        arith,
        eight_is s 0,
        four_is s 0,
        four_is s 4,
        get_or-take 8 s 0 0 (omega arith),
        get_or-take 8 s 1 0 (omega arith),
        get_or-take 8 s 2 0 (omega arith),
        get_or-take 8 s 3 0 (omega arith),
        get_or-take 8 s 4 0 (omega arith),
        get_or-take 8 s 5 0 (omega arith),
        get_or-take 8 s 6 0 (omega arith),
        get_or-take 8 s 7 0 (omega arith),
      )

-- the size that stands at p
pub size_read : (s : List ℕ) (p : ℕ) {x : ℕ}
    → x ≡ from_le_bytes w32 (get_or s p 0 ∷ get_or s (p + 1) 0 ∷ get_or s (p + 2) 0 ∷ get_or s (p + 3) 0 ∷ []) → x ≡ number 4 (drop p s)
size_read s p e = omega (arith, e, four_is s p)

-- ---- numbers of eight bytes

pub length_numbers : (n : ℕ) (s : List ℕ) → length (numbers n s) ≡ n
length_numbers zero s = refl
length_numbers (suc n) s = ap suc (length_numbers n (drop 8 s))

numbers_at : (n i : ℕ) (s : List ℕ) → i < n → get_or (numbers n s) i 0 ≡ number 8 (drop (8 * i) s)
numbers_at zero i s h = absurd (omega arith)
numbers_at (suc n) zero s h = refl
numbers_at (suc n) (suc i) s h =
    let e : 8 + 8 * i ≡ 8 * suc i = omega arith in
    numbers_at n i (drop 8 s) (omega arith) ∙ ap (number 8) (drop-drop (8 * i) 8 s ∙ ap (λ (q : ℕ). drop q s) e)

-- the i-th piece of eight bytes
chunk_at : (k i : ℕ) (s : List ℕ) → i < k → get_or (first_chunks 8 k s) i [] ≡ take 8 (drop (8 * i) s)
chunk_at zero i s h = absurd (omega arith)
chunk_at (suc k) zero s h = refl
chunk_at (suc k) (suc i) s h =
    let e : 8 + 8 * i ≡ 8 * suc i = omega arith in
    chunk_at k i (drop 8 s) (omega arith) ∙ ap (take 8) (drop-drop (8 * i) 8 s ∙ ap (λ (q : ℕ). drop q s) e)

-- the i-th of the n numbers from p on, as it is read from the part of a slice that begins at p, in pieces of eight bytes
pub nth_read : (s : List ℕ) (p n i : ℕ) → i < n → p + 8 * n ≤ length s → {cs : List (List ℕ)}
    → cs ≡ first_chunks 8 (length (take (length s - p) (drop p s)) / 8) (take (length s - p) (drop p s))
    → {b : List ℕ} → b ≡ get_or cs i [] → {x : ℕ} → x ≡ from_le_bytes w64 b → x ≡ get_or (numbers n (drop p s)) i 0
nth_read s p n i h long e g f =
    let rest : take (length s - p) (drop p s) ≡ drop p s = take_all (length s - p) (drop p s) (omega (arith, length-drop p s)) in
    let many : i < length (drop p s) / 8 = omega (arith, length-drop p s) in
    f ∙ ap (from_le_bytes w64) g ∙ ap (λ (l : List (List ℕ)). from_le_bytes w64 (get_or l i [])) (rw rest at e) ∙ ap (from_le_bytes w64) (chunk_at (length (drop p s) / 8) i (drop p s) many)
    ∙ eight_read (drop (8 * i) (drop p s)) ∙ sym (numbers_at n i (drop p s) h)

-- how many pieces of eight bytes there are from p on
pub many_pieces : (s : List ℕ) (p : ℕ) {c : ℕ} → c ≡ length (take (length s - p) (drop p s)) / 8 → c ≡ (length s - p) / 8
many_pieces s p e =
    let rest : take (length s - p) (drop p s) ≡ drop p s = take_all (length s - p) (drop p s) (omega (arith, length-drop p s)) in
    e ∙ ap (λ (l : List ℕ). length l / 8) rest ∙ ap (λ (c : ℕ). c / 8) (length-drop p s)

-- the pairs of pieces from 8 and from 8 + 8 * n on are n or more
pub all_pairs : (s : List ℕ) (n : ℕ) {a b i : ℕ} → length s ≡ 8 + 16 * n → a ≡ length (take (length s - 8) (drop 8 s)) / 8
    → b ≡ length (take (length s - (8 + 8 * n)) (drop (8 + 8 * n) s)) / 8 → i ≡ min a b → n ≤ i
all_pairs s n long e f h = omega (arith, long, h, many_pieces s 8 e, many_pieces s (8 + 8 * n) f)
