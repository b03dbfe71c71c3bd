-- Laws of lines taken from chunks. Assumes nothing.
use Prim.Native.Nat.{ℕ, zero, suc, ◌+◌, ◌-◌, ◌≤◌, ◌<◌, min}
use mathlib.Core.Path.{◌≡◌, refl, sym, ap, ◌∙◌}
use mathlib.Core.Bool.{Bool, true, false}
use mathlib.Core.List.{List, [], ◌∷◌, ◌++◌}
use native.Mathlib.Omega.{arith}
use lib.ListN.{length, take, drop, length-take, length-drop}
use lib.Seq.{take_all, take-append-add}
use Rattle.std.proofs.lemmas.List.{take_min}
use Rattle.std.proofs.lemmas.Slice.{take-put_mid, drop-put_mid}
use borrow.Rule.Slice.PartMut.{put_mid, same_len_mid}
use Rattle.parsing.specs.Split.{Held}
use Rattle.parsing.specs.Line.{line_of}
use Rattle.parsing.proofs.Forms.{line_long}
use borrow.Author.Tests.{leb-true, leb-false}
use lib.Dec.{leb}

-- what `hold` leaves: k of the values, as far as there is room, after those that are held
pub held_put : {A : Type 0} (values was ys : List A) (held at k r : ℕ) → at ≡ min held (length was) → k ≡ min (length values) (length was - at) → r ≡ at + k → ys ≡ take k values
    → Held values was held (put_mid at k was ys) r
held_put {A} values was ys held at k r e h j i =
    let within : at ≤ length was = omega arith in
    let many : length ys ≡ k = omega (arith, ap length i, length-take k values) in
    let some : take (length was - at) values ≡ ys = sym (take_min (length was - at) values) ∙ ap (λ (n : ℕ). take n values) (omega arith) ∙ sym i in
    let room : length (take at was) + (length was - at) ≡ length was = omega (arith, length-take at was) in
    let long : length (put_mid at k was ys) ≡ length was = same_len_mid at k was ys (omega (arith, many, length-take k (drop at was), length-drop at was)) in
    record {
      front =
          take-put_mid at k was ys r (omega arith) within
          ∙ ap (λ (l : List A). take at was ++ l) (sym some)
          ∙ sym (take-append-add (take at was) values (length was - at))
          ∙ ap (λ (n : ℕ). take n (take at was ++ values)) room
          ∙ ap (λ (l : List A). take (length was) (l ++ values)) (ap (λ (n : ℕ). take n was) e ∙ take_min held was);
      past = drop-put_mid at k was ys r (omega arith) within many;
      within = omega arith;
      long = long;
    }

-- ---- what is held of a line

pub take_front : (n : ℕ) (l s : List ℕ) → take n (take n l ++ s) ≡ take n (l ++ s)
take_front zero l s = refl
take_front (suc n) [] s = refl
take_front (suc n) (x ∷ xs) s = ap (λ (l : List ℕ). x ∷ l) (take_front n xs s)

cut_when : (l : List ℕ) (n : ℕ) (t : Bool) → leb (length l) 1100 ≡ t → 1100 < n → line_of (take n l) ≡ line_of l
cut_when l n true e h = ap line_of (take_all n l (omega (arith, leb-true (length l) 1100 e)))
cut_when l n false e h =
    let g = leb-false (length l) 1100 e in
    sym (line_long (take n l) (omega (arith, length-take n l, g))) ∙ line_long l g

-- of a line no more than its first 1,101 bytes decide what it asks
pub line_cut : (l : List ℕ) (n : ℕ) → 1100 < n → line_of (take n l) ≡ line_of l
line_cut l n h = cut_when l n (leb (length l) 1100) refl h
