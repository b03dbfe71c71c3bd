-- The pairs of an image written one after the other: `Running` before the first pair, from one pair to the next, and after the last; and the
-- sizes, which are written before them. Assumes nothing.
use Prim.Native.Nat.{ℕ, zero, suc, ◌+◌, ◌*◌, ◌≤◌, ◌<◌}
use mathlib.Core.Path.{◌≡◌, refl, sym, ap, ◌∙◌}
use mathlib.Core.List.{List, [], ◌∷◌, ◌++◌, map}
use native.Mathlib.Omega.{arith}
use lib.ListN.{length, get_or, set, take, drop, length-map, length-append, length-drop, take-append-drop, get_or-map}
use lib.Seq.{sets, length-sets, sets-eq, take-set-le, drop-set-lt, drop-set-add}
use lib.Seq.{slice, slice_empty, take-add, take_at, take-nil, take-length, drop-drop, length-take-le}
use Rattle.fnv.specs.Fnv.{bytes}
use Rattle.steps.specs.Step.{over}
use Rattle.image.specs.Bytes.{layout}
use Rattle.links.specs.Stores.{at}
use Rattle.links.proofs.Lists.{length_walk}
use Rattle.links.proofs.Walks.{Passed, passed_one, more, place_is}
use Rattle.image.specs.Running.{Running, places_along}
use Rattle.image.proofs.Writes.{length_bytes}
use Rattle.image.proofs.Layouts.{rounds_size_in, members_size_in, member_in, round_in, length_layout}

-- ---- parts of a list in which others are stored

slice_is : (b k : ℕ) (l : List ℕ) → slice b (b + k) l ≡ take k (drop b l)
slice_is zero k l = let e : 0 + k ≡ k = omega arith in rw e
slice_is (suc b) k [] = rw (take-nil (suc b + k), take-nil k)
slice_is (suc b) k (x ∷ l) = let e : suc b + k ≡ suc (b + k) = omega arith in rw e (slice_is b k l)

take_sets : (xs l : List ℕ) (n i : ℕ) → n ≤ i → take n (sets l i xs) ≡ take n l
take_sets [] l n i h = refl
take_sets (x ∷ xs) l n i h = take_sets xs (set l i x) n (suc i) (omega arith) ∙ take-set-le n l i x h

drop_sets : (xs l : List ℕ) (n i : ℕ) → i + length xs ≤ n → drop n (sets l i xs) ≡ drop n l
drop_sets [] l n i h = refl
drop_sets (x ∷ xs) l n i h = drop_sets xs (set l i x) n (suc i) (omega arith) ∙ drop-set-lt n l i x (omega arith)

drop_sets_add : (xs l : List ℕ) (n i : ℕ) → drop n (sets l (n + i) xs) ≡ sets (drop n l) i xs
drop_sets_add [] l n i = refl
drop_sets_add (x ∷ xs) l n i =
    let e : suc (n + i) ≡ n + suc i = omega arith in
    rw (e, ← drop-set-add n l i x) (drop_sets_add xs (set l (n + i) x) n (suc i))

-- what agrees with the image up to p agrees up to p + k once the image's next k are stored there
agrees_on : (out image xs : List ℕ) (p k : ℕ) → p + k ≤ length out → length xs ≡ k → take k (drop p image) ≡ xs → take p out ≡ take p image
    → take (p + k) (sets out p xs) ≡ take (p + k) image
agrees_on out image xs p k room e next t =
    let l : length (take p out ++ xs) ≡ p + k = length-append (take p out) xs ∙ omega (arith, length-take-le p out (omega arith)) in
    ap (take (p + k)) (sets-eq xs out p (omega arith)) ∙ take_at (take p out ++ xs) (drop (p + length xs) out) (p + k) l
    ∙ rw (t, ← next) (sym (take-add p k image))

module _ (keys values owners next : List ℕ) (n m : ℕ) where
  abbrev places : List ℕ
  places = places_along next n

  abbrev ks : List ℕ
  ks = map (λ x. at keys (at owners x)) places

  abbrev vs : List ℕ
  vs = map (at values) places

  abbrev image : List ℕ
  image = layout n m ks vs

  -- where the second array begins
  abbrev base : ℕ
  base = 8 + 8 * n

  places_long : length places ≡ n
  places_long = length_walk (at next) (at next 1024) n

  ks_long : length ks ≡ n
  ks_long = length-map places (λ x. at keys (at owners x)) ∙ places_long

  vs_long : length vs ≡ n
  vs_long = length-map places (at values) ∙ places_long

  size : length image ≡ 8 + 16 * n
  size = length_layout n m ks vs ks_long vs_long

  -- ---- before the first pair: only the sizes stand there

  pub running_start : {xs : List ℕ} → xs ≡ places → (out : List ℕ) → take 8 out ≡ take 8 image → Running next image out n 0 xs 8 base out
  running_start e out sizes =
      record {
        some = omega (arith, ap length e, places_long);
        left = e;
        first_is = omega arith;
        second_is = omega arith;
        members = sizes;
        rounds = slice_empty base out ∙ sym (slice_empty base image);
        past = refl;
        long = refl;
      }

  module _ {was : List ℕ} {i : ℕ} {xs : List ℕ} {first second : ℕ} {out : List ℕ} (r : Running next image was n i xs first second out) where
    -- ---- from one pair to the next

    module _ (room : 8 + 16 * n ≤ length was) {x : ℕ} {xs' : List ℕ} (e : xs ≡ x ∷ xs') where
      passed : Passed places i xs
      passed = record { many = r.some ∙ sym places_long; left = r.left }

      less : i < n
      less = omega (arith, more passed e, places_long)

      x_is : x ≡ get_or places i 0
      x_is = place_is passed e 0

      -- the bytes of the pair
      member_is : take 8 (drop first image) ≡ bytes 8 (at keys (at owners x))
      member_is =
          rw r.first_is (member_in n m ks vs ks_long i (at keys (at owners 0)) less)
          ∙ ap (bytes 8) (get_or-map (λ x. at keys (at owners x)) places i 0 ∙ ap (λ (q : ℕ). at keys (at owners q)) (sym x_is))

      round_is : take 8 (drop (8 * i) (drop base image)) ≡ bytes 8 (at values x)
      round_is =
          rw (drop-drop (8 * i) base image) (round_in n m ks vs ks_long vs_long i (at values 0) less)
          ∙ ap (bytes 8) (get_or-map (at values) places i 0 ∙ ap (at values) (sym x_is))

      module _ (member round : ℕ) (em : member ≡ at keys (at owners x)) (er : round ≡ at values x)
          (a b : List ℕ) (ea : a ≡ sets out first (bytes 8 member)) (eb : b ≡ sets a second (bytes 8 round)) where
        members_on : take (first + 8) b ≡ take (first + 8) image
        members_on =
            ap (take (first + 8)) eb ∙ take_sets (bytes 8 round) a (first + 8) second (omega (arith, less)) ∙ ap (take (first + 8)) ea
            ∙ agrees_on out image (bytes 8 member) first 8 (omega (arith, less)) (length_bytes 8 member) (member_is ∙ ap (bytes 8) (sym em)) r.members

        rounds_on : slice base (second + 8) b ≡ slice base (second + 8) image
        rounds_on =
            let e : second + 8 ≡ base + (8 * i + 8) = omega arith in
            let rest : drop base b ≡ sets (drop base out) (8 * i) (bytes 8 round) =
            ap (drop base) (rw r.second_is at eb) ∙ drop_sets_add (bytes 8 round) a base (8 * i)
            ∙ ap (λ (l : List ℕ). sets l (8 * i) (bytes 8 round))
            (ap (drop base) ea ∙ drop_sets (bytes 8 member) out base first (omega (arith, less, length_bytes 8 member))) in
            let before : take (8 * i) (drop base out) ≡ take (8 * i) (drop base image) =
            sym (slice_is base (8 * i) out) ∙ rw r.second_is at r.rounds ∙ slice_is base (8 * i) image in
            rw (e, slice_is base (8 * i + 8) b, slice_is base (8 * i + 8) image, rest)
            (agrees_on (drop base out) (drop base image) (bytes 8 round) (8 * i) 8 (omega (arith, less, length-drop base out, r.long)) (length_bytes 8 round)
            (round_is ∙ ap (bytes 8) (sym er)) before)

        past_on : drop (length image) b ≡ drop (length image) was
        past_on =
            ap (drop (length image)) eb ∙ drop_sets (bytes 8 round) a (length image) second (omega (arith, less, size, length_bytes 8 round))
            ∙ ap (drop (length image)) ea ∙ drop_sets (bytes 8 member) out (length image) first (omega (arith, less, size, length_bytes 8 member))
            ∙ r.past

        pub running_one : {i' : ℕ} → i' ≡ i + 1 → Running next image was n i' xs' (first + 8) (second + 8) b
        running_one z =
            rw z
            (record {
              some = omega (arith, r.some, ap length e);
              left = (passed_one passed e refl).left;
              first_is = omega arith;
              second_is = omega arith;
              members = members_on;
              rounds = rounds_on;
              past = past_on;
              long = ap length eb ∙ length-sets a second (bytes 8 round) ∙ ap length ea ∙ length-sets out first (bytes 8 member) ∙ r.long;
            })

    -- ---- after the last pair

    pub running_all : xs ≡ [] → out ≡ over image was
    running_all none =
        let h : i ≡ n = omega (arith, r.some, ap length none) in
        let f : first ≡ base = omega arith in
        let g : second ≡ base + 8 * n = omega arith in
        let e : length image ≡ base + 8 * n = omega (arith, size) in
        let front : take base out ≡ take base image = rw f at r.members in
        let back : take (8 * n) (drop base out) ≡ take (8 * n) (drop base image) =
        sym (slice_is base (8 * n) out) ∙ rw g at r.rounds ∙ slice_is base (8 * n) image in
        let all : take (length image) out ≡ take (length image) image =
        rw (e, take-add base (8 * n) out, take-add base (8 * n) image, front, back) in
        sym (take-append-drop (length image) out) ∙ rw (all, take-length image, r.past)

  -- ---- the sizes

  module _ (out a b : List ℕ) (ea : a ≡ sets out 0 (bytes 4 n)) (eb : b ≡ sets a 4 (bytes 4 m)) where
    first_long : length a ≡ length out
    first_long = ap length ea ∙ length-sets out 0 (bytes 4 n)

    pub sizes_stored : 8 + 16 * n ≤ length out → take 8 b ≡ take 8 image
    sizes_stored room =
        let four : take 4 a ≡ take 4 image =
        ap (take 4) ea ∙ agrees_on out image (bytes 4 n) 0 4 (omega arith) (length_bytes 4 n) (rounds_size_in n m ks vs) refl in
        ap (take 8) eb ∙ agrees_on a image (bytes 4 m) 4 4 (omega (arith, first_long)) (length_bytes 4 m) (members_size_in n m ks vs) four

    -- past the image they change nothing
    pub sizes_past : over image b ≡ over image out
    sizes_past =
        ap (λ (l : List ℕ). image ++ l)
        (ap (drop (length image)) eb ∙ drop_sets (bytes 4 m) a (length image) 4 (omega (arith, size, length_bytes 4 m))
        ∙ ap (drop (length image)) ea ∙ drop_sets (bytes 4 n) out (length image) 0 (omega (arith, size, length_bytes 4 n)))
