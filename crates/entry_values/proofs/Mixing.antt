-- The invariant of `mix`'s loop, where i marks are done, k rounds are written, zs is what the out slice holds and l what the reader has not given:
-- what is still to come, written from k on, makes what the whole mix makes, which gives `all` and begins with ys in the out slice. Assumes nothing.
use Rattle.std.proofs.Common.{ℕ, ◌+◌, ◌<◌, ◌≤◌, ◌≡◌, List, Option, Some, None, ◌++◌, length, get_or, drop, refl, ap, arith, length-append, add-zero, add-one}
use Rattle.std.proofs.lemmas.List.{drop_more}
use Rattle.std.proofs.lemmas.List.Edits.{sets}
use Rattle.entry_values.specs.Reader.{Gave, or_none}
use Rattle.entry_values.specs.Mix.{round_of, given, mark_of, marks}

-- a call's round and then others are both written
sets_round : (zs l : List ℕ) (k : ℕ) (r : Option ℕ) → sets (sets zs k (round_of (or_none r))) (k + length (round_of (or_none r))) l ≡ sets zs k (round_of (or_none r) ++ l)
sets_round zs l k None = rw add-zero refl
sets_round zs l k (Some v) = rw add-one refl

one_round : (r : Option ℕ) → length (round_of (or_none r)) ≤ 1
one_round None = omega arith
one_round (Some v) = omega arith

abbrev to_come : List ℕ → ℕ → List ℕ → List ℕ
to_come order i l = given (marks (drop i order)) l

pub record Going (order ys all l : List ℕ) (k i : ℕ) (zs : List ℕ) : Type 0 where
  pub fewer : k ≤ i
  pub written : sets zs k (to_come order i l) ≡ sets ys 0 all
  pub number : k + length (to_come order i l) ≡ length all

-- after one more call, which gave r and left l'
pub Going_more : {order ys all l l' zs zs' : List ℕ} {k k' i : ℕ} {r : Option ℕ} → Going order ys all l k i zs → i < length order → Gave (mark_of (get_or order i 0)) l r l'
    → k' ≡ k + length (round_of (or_none r)) → zs' ≡ sets zs k (round_of (or_none r)) → Going order ys all l' k' (i + 1) zs'
Going_more {order} {l = l} {l'} {zs} {k = k} {i = i} {r} g h d number written =
    let coming : to_come order i l ≡ round_of (or_none r) ++ to_come order (i + 1) l' = rw (drop_more order i 0 h, d.says, d.leaves) refl in
    rw (number, written) (record {
      fewer = omega (arith, one_round r);
      written = grind (arith, sets_round zs (to_come order (i + 1) l') k r, coming, g.written);
      number = omega (arith, ap length coming, length-append (round_of (or_none r)) (to_come order (i + 1) l'));
    })
