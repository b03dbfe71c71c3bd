-- What `read_image` gives is what the definition says. Assumes nothing.
use Prim.Native.Nat.{ℕ, ◌+◌, ◌*◌, ◌≤◌, ◌<◌}
use mathlib.Core.Path.{◌≡◌, refl, sym, ap, ◌∙◌, subst}
use mathlib.Core.Logic.{◌≢◌}
use mathlib.Core.Bool.{Bool, true, false, ◌||◌}
use mathlib.Core.List.{List, [], ◌∷◌, map}
use native.Mathlib.Omega.{arith}
use borrow.Author.Tests.{eq-eqb, ne_eqb, lt-ltb, le-ltb}
use lib.Dec.{ltb}
use lib.ListN.{length, drop}
use Rattle.steps.specs.State.{State, Limits, limit, Pair, empty}
use Rattle.steps.specs.Marked.{firsts, start}
use Rattle.steps.specs.Call.{Answer, refused, done}
use Rattle.steps.specs.Step.{too_high, make_of}
use Rattle.steps.specs.Proper.{Allowed}
use Rattle.steps.proofs.Limits.{allowed, not_too_high, made_refused, made_done, made_with}
use Rattle.multimap.specs.declared.ListOrderedMultimap.{ListOrderedMultimap}
use Rattle.multimap.specs.Map.{limits_of, state_of}
use Rattle.multimap.specs.Making.{Makes}
use Rattle.multimap.specs.WellLinked.{WellLinked}
use Rattle.multimap.proofs.Stores.{length_members}
use Rattle.image.specs.Bytes.{numbers}
use Rattle.image.specs.Image.{rounds_said, members_said, pair_up, pairs_in, reading, read_of}
use Rattle.image.specs.Answers.{Reads}
use Rattle.image.specs.Parts.{RightSizes}

-- ---- members and rounds as pairs

pub keys_of : (xs ys : List ℕ) → length xs ≡ length ys → map (λ p. p.key) (pair_up xs ys) ≡ xs
keys_of [] ys e = refl
keys_of (x ∷ xs) [] e = absurd (omega arith)
keys_of (x ∷ xs) (y ∷ ys) e = ap (λ (l : List ℕ). x ∷ l) (keys_of xs ys (omega arith))

pub values_of : (xs ys : List ℕ) → length xs ≡ length ys → map (λ p. p.value) (pair_up xs ys) ≡ ys
values_of [] [] e = refl
values_of [] (y ∷ ys) e = absurd (omega arith)
values_of (x ∷ xs) [] e = absurd (omega arith)
values_of (x ∷ xs) (y ∷ ys) e = ap (λ (l : List ℕ). y ∷ l) (values_of xs ys (omega arith))

-- what is read is what the definition gives
reads_as : (l : Limits) (s : List ℕ) (m : ListOrderedMultimap) (a : Answer) (t : State) → WellLinked m → state_of m ≡ t → read_of l s ≡ (a, t) → Reads l s a m
reads_as l s m a t g i e =
    record { answer = sym (ap (λ (r : Answer × State). r.0) e); state = i ∙ sym (ap (λ (r : Answer × State). r.1) e); linked = g }

-- ---- the refusals

module _ (l : Limits) (s : List ℕ) where
  abbrev too_many : Bool
  too_many = ltb l.rounds (rounds_said s) || ltb l.members (members_said s)

  pub read_too_high : too_high l ≡ true → read_of l s ≡ (refused 15, empty (limit 0 0))
  unfolding read_of reading
  read_too_high e = rw (e, made_refused l e)

  module _ (ok : Allowed l) where
    low : too_high l ≡ false
    low = not_too_high l ok

    pub read_short : length s < 8 → read_of l s ≡ (refused 11, empty l)
    unfolding read_of reading
    read_short h = rw (low, lt-ltb (length s) 8 h, made_with l ok)

    read_many : 8 ≤ length s → too_many ≡ true → read_of l s ≡ (refused 12, empty l)
    unfolding read_of reading
    read_many h e = rw (low, le-ltb (length s) 8 h, e, made_with l ok)

    read_length : 8 ≤ length s → too_many ≡ false → length s ≢ 8 + 16 * rounds_said s → read_of l s ≡ (refused 13, empty l)
    unfolding read_of reading
    read_length h e n = rw (low, le-ltb (length s) 8 h, e, ne_eqb (length s) (8 + 16 * rounds_said s) n, made_with l ok)

    read_members : 8 ≤ length s → too_many ≡ false → length s ≡ 8 + 16 * rounds_said s → members_said s ≢ length (firsts [] (pairs_in s))
        → read_of l s ≡ (refused 14, empty l)
    unfolding read_of reading
    read_members h e f n =
        rw (low, le-ltb (length s) 8 h, e, eq-eqb (length s) (8 + 16 * rounds_said s) f, ne_eqb (members_said s) (length (firsts [] (pairs_in s))) n, made_with l ok)

    pub read_whole : 8 ≤ length s → (ltb l.rounds (rounds_said s) || ltb l.members (members_said s)) ≡ false → length s ≡ 8 + 16 * rounds_said s
        → members_said s ≡ length (firsts [] (pairs_in s)) → read_of l s ≡ (done, start l (pairs_in s))
    unfolding read_of reading
    read_whole h e f n =
        rw (low, le-ltb (length s) 8 h, e, eq-eqb (length s) (8 + 16 * rounds_said s) f, eq-eqb (members_said s) (length (firsts [] (pairs_in s))) n)

  -- by the sizes as they were read
  module _ (h : 8 ≤ length s) (n m : ℕ) (en : n ≡ rounds_said s) (em : m ≡ members_said s) where
    pub says_many : (ltb l.rounds n || ltb l.members m) ≡ true → Allowed l → read_of l s ≡ (refused 12, empty l)
    says_many e ok = read_many ok h (rw (sym en, sym em) e)

    pub says_length : n ≤ l.rounds → m ≤ l.members → length s ≢ 8 + 16 * n → Allowed l → read_of l s ≡ (refused 13, empty l)
    says_length few few_members ne ok =
        read_length ok h (rw (le-ltb l.rounds (rounds_said s) (omega arith)) (le-ltb l.members (members_said s) (omega arith)))
        (λ e. ne (e ∙ ap (λ (x : ℕ). 8 + 16 * x) (sym en)))

  -- ---- an image whose sizes are right

  module _ (ok : Allowed l) {n m : ℕ} (z : RightSizes l s n m) where
    small : too_many ≡ false
    small = rw (le-ltb l.rounds (rounds_said s) (omega (arith, z))) (le-ltb l.members (members_said s) (omega (arith, z)))

    right : length s ≡ 8 + 16 * rounds_said s
    right = rw z.rounds at z.long

    abbrev read : List Pair
    read = pair_up (numbers n (drop 8 s)) (numbers n (drop (8 + 8 * n) s))

    the_pairs : read ≡ pairs_in s
    unfolding pairs_in
    the_pairs = rw z.rounds

    -- more members than the limit are not m
    pub restored_many : l.members < length (firsts [] (pair_up (numbers n (drop 8 s)) (numbers n (drop (8 + 8 * n) s)))) → read_of l s ≡ (refused 14, empty l)
    restored_many more =
        read_members ok z.enough small right (λ u. omega (arith, z, ap (λ (l : List Pair). length (firsts [] l)) the_pairs))

    module _ (r : ListOrderedMultimap) (g : WellLinked r) (i : state_of r ≡ start l (pair_up (numbers n (drop 8 s)) (numbers n (drop (8 + 8 * n) s)))) where
      state : state_of r ≡ start l (pairs_in s)
      state = i ∙ ap (start l) the_pairs

      counted : r.members.len ≡ length (firsts [] (pairs_in s))
      counted = sym (length_members r) ∙ ap (λ (t : State). length t.members) state

      -- m members, or not
      pub restored_all : r.members.len ≡ m → Reads l s done r
      restored_all u = reads_as l s r done (start l (pairs_in s)) g state (read_whole ok z.enough small right (sym z.members ∙ sym u ∙ counted))

      pub restored_other : r.members.len ≢ m → read_of l s ≡ (refused 14, empty l)
      restored_other u = read_members ok z.enough small right (λ v. u (counted ∙ sym v ∙ sym z.members))

-- ---- the map that is made first

module _ {l : Limits} {m : ListOrderedMultimap} {a : Answer} (k : Makes l a m) where
  -- a making that is not refused has limits that a map may have, and gives the empty map with them
  pub made_allowed : a ≡ done → Allowed l
  made_allowed e = go (too_high l) refl
    where
      go : (b : Bool) → too_high l ≡ b → Allowed l
      go true h =
          let f : done ≡ refused 15 = sym e ∙ k.answer ∙ ap (λ (t : Answer × State). t.0) (made_refused l h) in
          absurd (let z : ◌≡◌ {A = ℕ} 0 1 = cc f in omega arith)
      go false h = allowed l h

  made_empty : Allowed l → state_of m ≡ empty l
  made_empty ok = k.state ∙ ap (λ (t : Answer × State). t.1) (made_with l ok)

  limits : Allowed l → limits_of m ≡ l
  limits ok = ap (λ (t : State). t.limits) (made_empty ok)

  -- by 15, as the making was
  pub reads_too_high : (s : List ℕ) {n : ℕ} → a ≡ refused n → Reads l s a m
  reads_too_high s {n} e = go (too_high l) refl
    where
      go : (b : Bool) → too_high l ≡ b → Reads l s a m
      go true h =
          let made = made_refused l h in
          let read = read_too_high l s h in
          record {
            answer = k.answer ∙ ap (λ (t : Answer × State). t.0) (made ∙ sym read);
            state = k.state ∙ ap (λ (t : Answer × State). t.1) (made ∙ sym read);
            linked = k.linked;
          }
      go false h =
          let f : done ≡ refused n = sym (k.answer ∙ ap (λ (t : Answer × State). t.0) (made_done l h)) ∙ e in
          absurd (let z : ◌≡◌ {A = ℕ} 0 1 = cc f in omega arith)

  -- ---- where the limits may be had

  module _ (ok : Allowed l) (s : List ℕ) where
    -- sizes that are right for the limits are so for those of the map that is made
    pub right_of : {i j : ℕ} → RightSizes l s i j → RightSizes (limits_of m) s i j
    right_of {i} {j} = subst (λ (x : Limits). RightSizes x s i j) (sym (limits ok))

    made_new : state_of m ≡ empty (limits_of m)
    made_new = made_empty ok ∙ ap empty (sym (limits ok))

    -- by the sizes
    pub reads_refused : {n : ℕ} → read_of l s ≡ (refused n, empty l) → Reads l s (refused n) m
    reads_refused {n} = reads_as l s m (refused n) (empty l) k.linked (made_empty ok)

    pub reads_done : {r : ListOrderedMultimap} → (WellLinked m → state_of m ≡ empty (limits_of m) → Reads (limits_of m) s done r) → Reads l s done r
    reads_done {r} p = subst (λ (x : Limits). Reads x s done r) (limits ok) (p k.linked made_new)

    -- by the number of members: the map is made once more
    pub reads_members : {n : ℕ} → (WellLinked m → state_of m ≡ empty (limits_of m) → read_of (limits_of m) s ≡ (refused n, empty (limits_of m)))
        → {r : ListOrderedMultimap} → WellLinked r → state_of r ≡ (make_of l).1 → Reads l s (refused n) r
    reads_members {n} p {r} g i =
        reads_as l s r (refused n) (empty l) g (i ∙ ap (λ (t : Answer × State). t.1) (made_with l ok))
        (subst (λ (x : Limits). read_of x s ≡ (refused n, empty x)) (limits ok) (p k.linked made_new))
