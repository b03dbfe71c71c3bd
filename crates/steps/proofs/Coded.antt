-- The four numbers of an answer: there are four, and no two answers have the same ones. Assumes nothing.
use mathlib.Core.Path.{◌≡◌, refl, ap, sym, ◌∙◌}
use mathlib.Core.Bool.{true, false}
use Prim.Native.Nat.{ℕ}
use lib.ListN.{length, get_or}
use Rattle.steps.specs.Call.{Answer, refused, none, done, round, count, present, popped, occupied, vacant}
use Rattle.steps.specs.Coded.{words, coded, decoded}

pub coded_length : (a : Answer) → length (coded a) ≡ 4
coded_length (refused n) = refl
coded_length none = refl
coded_length done = refl
coded_length (round v) = refl
coded_length (count n) = refl
coded_length (present b) = refl
coded_length (popped k v b) = refl
coded_length (occupied n) = refl
coded_length (vacant k) = refl

-- four numbers, each of which is the answer's
pub coded_words : (a : Answer) (w x y z : ℕ) → w ≡ get_or (coded a) 0 0 → x ≡ get_or (coded a) 1 0 → y ≡ get_or (coded a) 2 0 → z ≡ get_or (coded a) 3 0 → words w x y z ≡ coded a
coded_words a w x y z p q r s = rw (p, q, r, s) (whole a)
  where
    whole : (a : Answer) → words (get_or (coded a) 0 0) (get_or (coded a) 1 0) (get_or (coded a) 2 0) (get_or (coded a) 3 0) ≡ coded a
    whole (refused n) = refl
    whole none = refl
    whole done = refl
    whole (round v) = refl
    whole (count n) = refl
    whole (present b) = refl
    whole (popped k v b) = refl
    whole (occupied n) = refl
    whole (vacant k) = refl

pub decoded_coded : (a : Answer) → decoded (coded a) ≡ a
unfolding decoded
decoded_coded (refused n) = refl
decoded_coded none = refl
decoded_coded done = refl
decoded_coded (round v) = refl
decoded_coded (count n) = refl
decoded_coded (present true) = refl
decoded_coded (present false) = refl
decoded_coded (popped k v true) = refl
decoded_coded (popped k v false) = refl
decoded_coded (occupied n) = refl
decoded_coded (vacant k) = refl

pub coded_injective : (a b : Answer) → coded a ≡ coded b → a ≡ b
coded_injective a b e = sym (decoded_coded a) ∙ ap decoded e ∙ decoded_coded b
