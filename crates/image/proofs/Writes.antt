-- Bytes of numbers, and bytes stored in a slice. Assumes nothing.
use Prim.Native.Nat.{ℕ, zero, suc, ◌+◌, ◌*◌, ◌-◌, ◌≤◌, ◌/◌, ◌%◌, ◌^◌}
use mathlib.Core.Path.{◌≡◌, refl, sym, ap, subst, ◌∙◌}
use mathlib.Core.List.{List, [], ◌∷◌, ◌++◌, append_assoc}
use native.Mathlib.Omega.{arith}
use lib.ListN.{length, take, drop, length-append}
use lib.Seq.{sets, sets-eq, drop-drop}
use borrow.Rule.Slice.PartMut.{put_mid}
use Rattle.std.specs.Int.{byte_at, bytes_low_first}
use Rattle.std.proofs.Math.Nat.{pow-suc, div-one, div-div-eq-div-mul}
use Rattle.fnv.specs.Fnv.{bytes}
use Rattle.image.specs.Bytes.{array}

pub length_bytes : (w x : ℕ) → length (bytes w x) ≡ w
unfolding bytes
length_bytes zero x = refl
length_bytes (suc w) x = ap suc (length_bytes w (x / 256))

pub length_array : (xs : List ℕ) → length (array xs) ≡ 8 * length xs
length_array [] = refl
length_array (x ∷ xs) = length-append (bytes 8 x) (array xs) ∙ omega (arith, length_bytes 8 x, length_array xs)

-- the bytes of a number as the library gives them, from the i-th on
byte_is : (i x : ℕ) → byte_at i x ≡ x / 256 ^ i % 256
byte_is zero x = ap (λ (y : ℕ). y % 256) (sym (div-one x))
byte_is (suc i) x = refl

low_first : (i w x : ℕ) → bytes_low_first i w x ≡ bytes w (x / 256 ^ i)
unfolding bytes
low_first i zero x = refl
low_first i (suc w) x =
    let shift : x / 256 ^ suc i ≡ x / 256 ^ i / 256 = ap (λ (p : ℕ). x / p) (pow-suc 256 i) ∙ sym (div-div-eq-div-mul x (256 ^ i) 256) in
    rw (byte_is i x, low_first (suc i) w x, shift) refl

pub le_bytes : (w x : ℕ) → bytes_low_first 0 w x ≡ bytes w x
le_bytes w x = low_first 0 w x ∙ ap (bytes w) (div-one x)

-- a part of a slice that is written
pub stored : (out xs : List ℕ) (p : ℕ) → p + length xs ≤ length out → put_mid p (p + length xs - p) out xs ≡ sets out p xs
stored out xs p room =
    let e : p + length xs - p ≡ length xs = omega arith in
    rw e
    (ap (λ (l : List ℕ). take p out ++ (xs ++ l)) (drop-drop (length xs) p out)
    ∙ sym (append_assoc (take p out) xs (drop (p + length xs) out)) ∙ sym (sets-eq xs out p room))

-- so, of an array of n bytes
pub stored_array : (out xs : List ℕ) (p n : ℕ) → length xs ≡ n → p + n ≤ length out → put_mid p (p + n - p) out xs ≡ sets out p xs
stored_array out xs p n e room = subst (λ (k : ℕ). put_mid p (p + k - p) out xs ≡ sets out p xs) e (stored out xs p (omega (arith, e, room)))

-- a number that is stored, by its bytes as the library gives them
pub stores : (out : List ℕ) (p w : ℕ) {b out' : List ℕ} {y x : ℕ} → out' ≡ sets out p b → b ≡ bytes_low_first 0 w y → y ≡ x → out' ≡ sets out p (bytes w x)
stores out p w {y = y} e f i = e ∙ ap (sets out p) (f ∙ le_bytes w y ∙ ap (bytes w) i)
