-- What stands where in an image. Assumes nothing.
use Prim.Native.Nat.{ℕ, zero, suc, ◌+◌, ◌*◌, ◌<◌}
use mathlib.Core.Path.{◌≡◌, sym, ap, ◌∙◌}
use mathlib.Core.List.{List, [], ◌∷◌, ◌++◌, append-nil, append_assoc}
use native.Mathlib.Omega.{arith}
use lib.ListN.{length, get_or, take, drop, length-append}
use lib.Seq.{take_at, drop_at, drop-drop}
use Rattle.fnv.specs.Fnv.{bytes}
use Rattle.image.specs.Bytes.{array, layout}
use Rattle.image.proofs.Writes.{length_bytes, length_array}

pub drop_bytes : (w x : ℕ) (rest : List ℕ) → drop w (bytes w x ++ rest) ≡ rest
drop_bytes w x rest = drop_at (bytes w x) rest w (length_bytes w x)

-- the i-th number of an array
pub number_in : (xs rest : List ℕ) (i d : ℕ) → i < length xs → take 8 (drop (8 * i) (array xs ++ rest)) ≡ bytes 8 (get_or xs i d)
number_in [] rest i d h = absurd (omega arith)
number_in (x ∷ xs) rest zero d h = rw append_assoc (take_at (bytes 8 x) (array xs ++ rest) 8 (length_bytes 8 x))
number_in (x ∷ xs) rest (suc i) d h =
    let e : 8 * suc i ≡ 8 + 8 * i = omega arith in
    rw (e, append_assoc, ← drop-drop (8 * i) 8 (bytes 8 x ++ (array xs ++ rest)), drop_bytes 8 x) (number_in xs rest i d (omega arith))

module _ (n m : ℕ) (ks vs : List ℕ) where
  -- the two sizes
  pub rounds_size_in : take 4 (layout n m ks vs) ≡ bytes 4 n
  rounds_size_in = take_at (bytes 4 n) (bytes 4 m ++ (array ks ++ array vs)) 4 (length_bytes 4 n)

  pub members_size_in : take 4 (drop 4 (layout n m ks vs)) ≡ bytes 4 m
  members_size_in =
      ap (take 4) (drop_bytes 4 n (bytes 4 m ++ (array ks ++ array vs))) ∙ take_at (bytes 4 m) (array ks ++ array vs) 4 (length_bytes 4 m)

  -- past the sizes, and past the members
  pub past_sizes : drop 8 (layout n m ks vs) ≡ array ks ++ array vs
  past_sizes =
      sym (drop-drop 4 4 (layout n m ks vs)) ∙ ap (drop 4) (drop_bytes 4 n (bytes 4 m ++ (array ks ++ array vs)))
      ∙ drop_bytes 4 m (array ks ++ array vs)

  module _ (e : length ks ≡ n) where
    pub past_members : drop (8 + 8 * n) (layout n m ks vs) ≡ array vs
    past_members =
        sym (drop-drop (8 * n) 8 (layout n m ks vs)) ∙ ap (drop (8 * n)) past_sizes
        ∙ drop_at (array ks) (array vs) (8 * n) (length_array ks ∙ ap (λ (k : ℕ). 8 * k) e)

    pub length_layout : length vs ≡ n → length (layout n m ks vs) ≡ 8 + 16 * n
    length_layout f =
        omega (
          arith,
          length-append (bytes 4 n) (bytes 4 m ++ (array ks ++ array vs)),
          length-append (bytes 4 m) (array ks ++ array vs),
          length-append (array ks) (array vs),
          length_bytes 4 n,
          length_bytes 4 m,
          length_array ks,
          length_array vs,
        )

    -- the member and the round of the i-th pair
    pub member_in : (i d : ℕ) → i < n → take 8 (drop (8 + 8 * i) (layout n m ks vs)) ≡ bytes 8 (get_or ks i d)
    member_in i d h = rw (← drop-drop (8 * i) 8 (layout n m ks vs), past_sizes) (number_in ks (array vs) i d (omega arith))

    pub round_in : length vs ≡ n → (i d : ℕ) → i < n → take 8 (drop (8 + 8 * n + 8 * i) (layout n m ks vs)) ≡ bytes 8 (get_or vs i d)
    round_in f i d h =
        rw (← drop-drop (8 * i) (8 + 8 * n) (layout n m ks vs), past_members, ← append-nil (array vs)) (number_in vs [] i d (omega arith))
