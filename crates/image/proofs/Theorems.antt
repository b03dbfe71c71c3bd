-- Images and states. What is written is read back as the same pairs, into limits that hold them; a refusal leaves a new map; what is accepted
-- is the image of what it is read as; and different pairs have different images. Assumes nothing.
use Prim.Native.Nat.{ℕ, ◌+◌, ◌*◌, ◌≤◌, ◌<◌}
use mathlib.Core.Path.{◌≡◌, refl, sym, ap, ◌∙◌}
use mathlib.Core.Logic.{◌↔◌, ◌⊎◌, inl, inr}
use mathlib.Core.Bool.{Bool, true, false, not, ◌||◌}
use mathlib.Core.List.{List, [], ◌∷◌, ◌++◌, map, append-nil}
use mathlib.Core.Option.{Option, some}
use mathlib.Core.Option as Opt
use native.Mathlib.Omega.{arith}
use borrow.Author.Tests.{le-ltb, ltb-false, eqb-true}
use lib.Dec.{eqb, ltb}
use lib.ListN.{length, take, drop, length-map, length-drop, take-append-drop}
use lib.Seq.{drop-drop, take_all}
use Rattle.fnv.specs.Fnv.{bytes}
use Rattle.steps.specs.State.{State, Limits, limit, Pair, empty}
use Rattle.steps.specs.Marked.{firsts, start}
use Rattle.steps.specs.Marked as Marked
use Rattle.steps.specs.Call.{Answer, refused, done}
use Rattle.steps.specs.Coded.{coded}
use Rattle.steps.specs.Step.{refusal, too_high, make_of}
use Rattle.steps.specs.Proper.{Allowed, New}
use Rattle.steps.proofs.Limits.{allowed, made_refused, made_done, makes_new}
use Rattle.multimap.specs.Map.{at, pairs, members, limits_of, state_of}
use Rattle.multimap.specs.WellLinked.{WellLinked}
use Rattle.multimap.specs.declared.ListOrderedMultimap.{ListOrderedMultimap}
use Rattle.multimap.proofs.Stores.{length_pairs, length_members}
use Rattle.image.specs.Bytes.{array, layout, number, numbers, AllBytes, Words}
use Rattle.image.specs.Image.{image_of}
use Rattle.image.specs.Image.{rounds_said, members_said, pairs_in, pair_up, reading, restored, read_of, Accepted}
use Rattle.image.proofs.Layouts.{drop_bytes, past_sizes, past_members}
use Rattle.image.proofs.Images.{length_image}
use Rattle.image.proofs.Numbers.{length_numbers}
use Rattle.image.proofs.Appends.{length_paired}
use Rattle.image.proofs.Restores.{read_too_high, read_whole, keys_of, values_of}
use Rattle.image.proofs.Back.{fits_four, number_bytes, numbers_array, long_keys, long_values, paired}
use Rattle.image.proofs.Back.{bytes_number, bytes_at, array_at}
use Rattle.image.proofs.Distinct.{members_counted}

-- ---- what an image says

module _ (n m : ℕ) (ks vs : List ℕ) where
  says_rounds : n < 4294967296 → number 4 (layout n m ks vs) ≡ n
  says_rounds h = number_bytes 4 n (bytes 4 m ++ (array ks ++ array vs)) (fits_four n h)

  says_members : m < 4294967296 → number 4 (drop 4 (layout n m ks vs)) ≡ m
  says_members h = ap (number 4) (drop_bytes 4 n (bytes 4 m ++ (array ks ++ array vs))) ∙ number_bytes 4 m (array ks ++ array vs) (fits_four m h)

module _ (s : State) (few : length s.pairs < 4294967296) (w : Words s.pairs) where
  abbrev ks : List ℕ
  ks = map (λ p. p.key) s.pairs

  abbrev vs : List ℕ
  vs = map (λ p. p.value) s.pairs

  image_rounds : rounds_said (image_of s) ≡ length s.pairs
  unfolding image_of
  image_rounds = says_rounds (length s.pairs) (length s.members) ks vs few

  image_members : length s.members < 4294967296 → members_said (image_of s) ≡ length s.members
  unfolding image_of
  image_members h = says_members (length s.pairs) (length s.members) ks vs h

  first_array : numbers (length s.pairs) (drop 8 (image_of s)) ≡ ks
  unfolding image_of
  first_array =
      ap (numbers (length s.pairs)) (past_sizes (length s.pairs) (length s.members) ks vs)
      ∙ ap (λ (n : ℕ). numbers n (array ks ++ array vs)) (sym (length-map s.pairs (λ p. p.key)))
      ∙ numbers_array ks (array vs) (long_keys s.pairs w)

  second_array : numbers (length s.pairs) (drop (8 + 8 * length s.pairs) (image_of s)) ≡ vs
  unfolding image_of
  second_array =
      ap (numbers (length s.pairs)) (past_members (length s.pairs) (length s.members) ks vs (length-map s.pairs (λ p. p.key)))
      ∙ ap (numbers (length s.pairs)) (sym (append-nil (array vs)))
      ∙ ap (λ (n : ℕ). numbers n (array vs ++ [])) (sym (length-map s.pairs (λ p. p.value)))
      ∙ numbers_array vs [] (long_values s.pairs w)

  -- the pairs of a state's image are the state's
  pub image_pairs : pairs_in (image_of s) ≡ s.pairs
  unfolding pairs_in
  image_pairs = rw (image_rounds, first_array, second_array) (paired s.pairs)

-- ---- different pairs have different images

pub image_injective : (s t : State) → length s.pairs < 4294967296 → length t.pairs < 4294967296 → Words s.pairs → Words t.pairs
    → image_of s ≡ image_of t → s.pairs ≡ t.pairs
image_injective s t fs ft ws wt e = sym (image_pairs s fs ws) ∙ ap pairs_in e ∙ image_pairs t ft wt

-- ---- what is written is read back, into limits that hold it

pub written_read : (l : Limits) → Allowed l → (s : State) → Words s.pairs → length s.pairs ≤ l.rounds → length s.members ≤ l.members
    → length s.members ≡ length (firsts [] s.pairs)
    → read_of l (image_of s) ≡ (done, start l s.pairs)
written_read l ok s w few few_members counted =
    let f : length s.pairs < 4294967296 = omega (arith, ok) in
    let n : rounds_said (image_of s) ≡ length s.pairs = image_rounds s f w in
    let m : members_said (image_of s) ≡ length s.members = image_members s f w (omega (arith, ok)) in
    let p : pairs_in (image_of s) ≡ s.pairs = image_pairs s f w in
    read_whole l (image_of s) ok (omega (arith, length_image s))
    (rw (le-ltb l.rounds (rounds_said (image_of s)) (omega (arith, n))) (le-ltb l.members (members_said (image_of s)) (omega (arith, m))))
    (omega (arith, length_image s, n)) (m ∙ counted ∙ ap (λ (l : List Pair). length (firsts [] l)) (sym p))
    ∙ ap (λ (ps : List Pair). (done, start l ps)) p

-- of a map: the same P, K in order of first appearance in P, and in T all of its rounds are the poster 0's
pub map_read_back : (l : Limits) → Allowed l → (m : ListOrderedMultimap) → WellLinked m → Words (pairs m) → length (pairs m) ≤ l.rounds
    → length (members m) ≤ l.members → read_of l (image_of (state_of m)) ≡ (done, start l (pairs m))
map_read_back l ok m g w few few_members = written_read l ok (state_of m) w few few_members (members_counted m g)

-- the map's own limits hold it
pub map_read_own : (m : ListOrderedMultimap) → WellLinked m → Words (pairs m) → read_of (limits_of m) (image_of (state_of m)) ≡ (done, start (limits_of m) (pairs m))
map_read_own m g w =
    map_read_back (limits_of m) g.limited.allowed m g w (omega (arith, length_pairs m, g.limited.rounds))
    (omega (arith, length_members m, g.limited.members))

-- ---- what is refused

-- limits that no map may have come first, whatever the bytes
pub reading_too_high : (l : Limits) (s : List ℕ) → (Allowed l → ⊥) → read_of l s ≡ (refused 15, empty (limit 0 0))
reading_too_high l s high = go (too_high l) refl
  where
    go : (b : Bool) → too_high l ≡ b → read_of l s ≡ (refused 15, empty (limit 0 0))
    go true e = read_too_high l s e
    go false e = absurd (high (allowed l e))

-- what a refusal by n leaves: the empty map, after 15 with both limits 0, after 11 to 14 with the limits given
abbrev pub Left : Limits → State → ℕ → Type 0
Left l t n = ((n ≡ 15) × (t ≡ empty (limit 0 0))) ⊎ ((11 ≤ n) × (n ≤ 14) × (t ≡ empty l))

-- what is read where the rows' tests are these
abbrev rows : (l : Limits) (s : List ℕ) (z a b c d : Bool) → Answer × State
rows l s z a b c d = restored (refusal ((z, 15) ∷ (a, 11) ∷ (b, 12) ∷ (not c, 13) ∷ (not d, 14) ∷ [])) l s

number_of : {n k : ℕ} → refused n ≡ refused k → n ≡ k
number_of e = ap (λ (a : Answer). at (coded a) 1) e

pub refused_reading : (l : Limits) (s : List ℕ) (n : ℕ) → (read_of l s).0 ≡ refused n → Left l (read_of l s).1 n
unfolding read_of reading
refused_reading l s n h =
    go (too_high l) refl (ltb (length s) 8) (ltb l.rounds (rounds_said s) || ltb l.members (members_said s))
    (eqb (length s) (8 + 16 * rounds_said s)) (eqb (members_said s) (length (firsts [] (pairs_in s)))) h
  where
    given : too_high l ≡ false → (make_of l).1 ≡ empty l
    given e = ap (λ (t : Answer × State). t.1) (made_done l e)

    go : (z : Bool) → too_high l ≡ z → (a b c d : Bool) → (rows l s z a b c d).0 ≡ refused n → Left l (rows l s z a b c d).1 n
    go true e a b c d h = inl (sym (number_of h), ap (λ (t : Answer × State). t.1) (made_refused l e))
    go false e true b c d h = inr (omega (arith, number_of h), omega (arith, number_of h), given e)
    go false e false true c d h = inr (omega (arith, number_of h), omega (arith, number_of h), given e)
    go false e false false false d h = inr (omega (arith, number_of h), omega (arith, number_of h), given e)
    go false e false false true false h = inr (omega (arith, number_of h), omega (arith, number_of h), given e)
    go false e false false true true h = absurd (let z : ◌≡◌ {A = ℕ} 0 1 = cc in omega arith)

-- it is new: it may have these limits
pub refused_new : (l : Limits) (s : List ℕ) (n : ℕ) → (read_of l s).0 ≡ refused n → New (read_of l s).1
unfolding read_of
refused_new l s n h = go (refusal (reading l s)) h
  where
    go : (o : Option ℕ) → (restored o l s).0 ≡ refused n → New (restored o l s).1
    go (some k) h = makes_new l
    go Opt.none h = absurd (let z : ◌≡◌ {A = ℕ} 0 1 = cc in omega arith)

-- ---- what is accepted

accepts : (l : Limits) (s : List ℕ) → (read_of l s).0 ≡ done → Accepted l s
unfolding read_of reading
accepts l s e =
    go (too_high l) (ltb (length s) 8) (ltb l.rounds (rounds_said s)) (ltb l.members (members_said s)) (eqb (length s) (8 + 16 * rounds_said s))
    (eqb (members_said s) (length (firsts [] (pairs_in s)))) refl refl refl refl refl refl e
  where
    go : (z a b c d f : Bool) → too_high l ≡ z → ltb (length s) 8 ≡ a → ltb l.rounds (rounds_said s) ≡ b → ltb l.members (members_said s) ≡ c
        → eqb (length s) (8 + 16 * rounds_said s) ≡ d
        → eqb (members_said s) (length (firsts [] (pairs_in s))) ≡ f
        → (rows l s z a (b || c) d f).0 ≡ done → Accepted l s
    go true a b c d f ez ea eb ec ed ef h = absurd (let z : ◌≡◌ {A = ℕ} 0 1 = cc in omega arith)
    go false true b c d f ez ea eb ec ed ef h = absurd (let z : ◌≡◌ {A = ℕ} 0 1 = cc in omega arith)
    go false false true c d f ez ea eb ec ed ef h = absurd (let z : ◌≡◌ {A = ℕ} 0 1 = cc in omega arith)
    go false false false true d f ez ea eb ec ed ef h = absurd (let z : ◌≡◌ {A = ℕ} 0 1 = cc in omega arith)
    go false false false false false f ez ea eb ec ed ef h = absurd (let z : ◌≡◌ {A = ℕ} 0 1 = cc in omega arith)
    go false false false false true false ez ea eb ec ed ef h = absurd (let z : ◌≡◌ {A = ℕ} 0 1 = cc in omega arith)
    go false false false false true true ez ea eb ec ed ef h =
        record {
          allowed = allowed l ez;
          enough = ltb-false _ _ ea;
          rounds = ltb-false _ _ eb;
          members = ltb-false _ _ ec;
          long = eqb-true _ _ ed;
          counted = eqb-true _ _ ef;
        }

accepted_read : (l : Limits) (s : List ℕ) → Accepted l s → read_of l s ≡ (done, start l (pairs_in s))
accepted_read l s a =
    read_whole l s a.allowed a.enough
    (rw (le-ltb l.rounds (rounds_said s) a.rounds) (le-ltb l.members (members_said s) a.members)) a.long a.counted

-- reading accepts exactly these, and then gives the image's pairs
pub accepted_exactly : (l : Limits) (s : List ℕ) → ((read_of l s).0 ≡ done) ↔ Accepted l s
accepted_exactly l s = (accepts l s, λ a. ap (λ (r : Answer × State). r.0) (accepted_read l s a))

pub accepted_pairs : (l : Limits) (s : List ℕ) → (read_of l s).0 ≡ done → (read_of l s).1 ≡ start l (pairs_in s)
accepted_pairs l s e = ap (λ (r : Answer × State). r.1) (accepted_read l s (accepts l s e))

-- all of its rounds are the poster 0's, whose counter is the number of pairs; every other counter is 0
pub restored_by_0 : (l : Limits) (s : List ℕ) → (read_of l s).0 ≡ done → (read_of l s).1.taken ≡ Marked.restored (length (read_of l s).1.pairs)
restored_by_0 l s e = rw (accepted_pairs l s e) refl

-- four parts, one after the other
parts : (s : List ℕ) (k : ℕ) → length s ≡ 8 + k + k → take 4 s ++ (take 4 (drop 4 s) ++ (take k (drop 8 s) ++ take k (drop (8 + k) s))) ≡ s
parts s k e =
    let last : take k (drop (8 + k) s) ≡ drop k (drop 8 s) =
    take_all k (drop (8 + k) s) (omega (arith, length-drop (8 + k) s)) ∙ sym (drop-drop k 8 s) in
    let arrays : take k (drop 8 s) ++ take k (drop (8 + k) s) ≡ drop 4 (drop 4 s) =
    ap (λ (l : List ℕ). take k (drop 8 s) ++ l) last ∙ take-append-drop k (drop 8 s) ∙ sym (drop-drop 4 4 s) in
    ap (λ (l : List ℕ). take 4 s ++ (take 4 (drop 4 s) ++ l)) arrays
    ∙ ap (λ (l : List ℕ). take 4 s ++ l) (take-append-drop 4 (drop 4 s)) ∙ take-append-drop 4 s

laid_back : (s : List ℕ) → AllBytes s → length s ≡ 8 + 16 * rounds_said s
    → layout (rounds_said s) (members_said s) (numbers (rounds_said s) (drop 8 s)) (numbers (rounds_said s) (drop (8 + 8 * rounds_said s) s)) ≡ s
laid_back s h e =
    let n : ℕ = rounds_said s in
    let f : length s ≡ 8 + 8 * n + 8 * n = omega arith in
    rw (bytes_number 4 s (omega arith) h, bytes_at 4 4 s (omega arith) h, array_at n 8 s (omega arith) h, array_at n (8 + 8 * n) s (omega arith) h)
    (parts s (8 * n) f)

image_whole : (l : Limits) (s : List ℕ) → AllBytes s → Accepted l s → image_of (start l (pairs_in s)) ≡ s
unfolding image_of pairs_in
image_whole l s h a =
    let n : ℕ = rounds_said s in
    let xs : List ℕ = numbers n (drop 8 s) in
    let ys : List ℕ = numbers n (drop (8 + 8 * n) s) in
    let same : length xs ≡ length ys = length_numbers n (drop 8 s) ∙ sym (length_numbers n (drop (8 + 8 * n) s)) in
    let many : length (pair_up xs ys) ≡ n = length_paired xs ys same ∙ length_numbers n (drop 8 s) in
    ap (λ (k : ℕ). layout k (length (firsts [] (pair_up xs ys))) (map (λ p. p.key) (pair_up xs ys)) (map (λ p. p.value) (pair_up xs ys))) many
    ∙ ap (λ (k : ℕ). layout n k (map (λ p. p.key) (pair_up xs ys)) (map (λ p. p.value) (pair_up xs ys))) (sym a.counted)
    ∙ ap (λ (l : List ℕ). layout n (members_said s) l (map (λ p. p.value) (pair_up xs ys))) (keys_of xs ys same)
    ∙ ap (layout n (members_said s) xs) (values_of xs ys same)
    ∙ laid_back s h a.long

-- bytes that are accepted are the image of the state that they are read as
pub accepted_image : (l : Limits) (s : List ℕ) → AllBytes s → (read_of l s).0 ≡ done → image_of (read_of l s).1 ≡ s
accepted_image l s h e = ap image_of (accepted_pairs l s e) ∙ image_whole l s h (accepts l s e)
