-- A round is added, and a member joins, where members may have no round yet: what the stores make of such a map. Assumes nothing.
use Prim.Native.Nat.{ℕ, ◌+◌, ◌≤◌, ◌<◌}
use mathlib.Core.Path.{◌≡◌, refl, sym, ap, ◌∙◌, subst}
use mathlib.Core.Logic.{◌⊎◌, inl, inr, ◌≢◌, ⊎_elim}
use mathlib.Core.List.Memᴰ
use mathlib.Core.List.{List, [], ◌∷◌, ◌++◌, map, Memᴰ}
use native.Mathlib.Omega.{arith}
use lib.ListN.{length, length-append}
use lib.Seq.{get_or-set_same, get_or-set_other}
use Rattle.steps.specs.State.{max_members, max_rounds}
use Rattle.links.specs.Route.{tally}
use Rattle.links.specs.Places.{order, vacancy}
use Rattle.links.specs.Links.{Links, Chained, added, joined}
use Rattle.links.specs.Stores.{spot}
use Rattle.links.proofs.Puts.{put_hit, put_miss}
use Rattle.links.proofs.Routes.{same_or_not, tally_append, tally_same, tally_other}
use Rattle.links.proofs.Lists.{in_array, first_fits, last_fits, vacancy_fits, length_order}
use Rattle.links.proofs.Chains.{added_order, added_off, added_chained, tail_fits, size_in, joined_order, joined_off, joined_chained}
use Rattle.index.specs.Table.{Holds, Vacant}
use Rattle.index.specs.Search.{search}
use Rattle.index.specs.declared.Found.TheVariants.{Absent}
use Rattle.index.proofs.Table.{reread, relist}
use Rattle.index.proofs.Adds.{added as index_added}
use Rattle.index.proofs.Finds.{says_absent}
use Rattle.multimap.specs.Map.{at, pair_at, pairs, members, rounds_of, members_of, links_of}
use Rattle.multimap.specs.declared.ListOrderedMultimap.{ListOrderedMultimap}
use Rattle.multimap.specs.Changes.{with_member, with_round}
use Rattle.multimap.specs.Sweep.{Sound}
use Rattle.multimap.proofs.Stores.{map_same, map-append, mem_tally, tally_mem}
use Rattle.multimap.proofs.Additions as A

-- ---- a round of the member place `key`

module _ (m : ListOrderedMultimap) (g : Sound m) (key : ℕ) (here : 0 < tally key (order (members_of m))) (room : m.rounds.len < max_rounds) where
  -- where the stores go
  pub key_fits : key < 256
  key_fits = in_array (members_of m) g.chained.members key here

  pub rounds_ends : (at m.next_value 1024 ≤ 1024) × (at m.previous_value 1024 ≤ 1024)
  rounds_ends = (first_fits (rounds_of m) g.chained.rounds, last_fits (rounds_of m) g.chained.rounds)

  pub tail_in : at m.previous_index (1024 + key) < 1280
  tail_in = tail_fits (links_of m) g.chained key 256 here key_fits

  pub size_fits : at m.lengths key < 1024
  size_fits = omega (arith, size_in (links_of m) g.chained key here, length_order (rounds_of m), room)

  abbrev x : ℕ
  x = spot m.rounds

  pub place_fits : x < 1024
  place_fits = vacancy_fits (rounds_of m) g.chained.rounds room

  module _ (poster v : ℕ) where
    -- the map with the stores
    abbrev r : ListOrderedMultimap
    r = with_round m poster key v

    pub round_links : links_of (with_round m poster key v) ≡ added (links_of m) key
    round_links = A.round_links m g.sized poster key v place_fits key_fits rounds_ends.1 tail_in size_fits room g.chained.rounds.some_fresh

    abbrev vs : List ℕ
    vs = order (rounds_of m)

    pub round_order : order (rounds_of (with_round m poster key v)) ≡ order (rounds_of m) ++ (spot m.rounds ∷ [])
    round_order = ap (λ (c : Links). order c.rounds) round_links ∙ added_order (links_of m) g.chained key here room

    off_x : (q : ℕ) → 0 < tally q vs → q ≢ x
    off_x q i j = added_off (links_of m) g.chained key here room q i j

    pair_old : (q : ℕ) → 0 < tally q vs → pair_at r q ≡ pair_at m q
    pair_old q i =
        rw (
          ap (λ (c : Links). at m.keys (c.key q)) round_links
              ∙ ap (at m.keys) (put_miss (at m.key_index) (vacancy (rounds_of m)) key q (off_x q i)),
          get_or-set_other m.values x q v 0 (off_x q i),
        )

    pair_new : pair_at r x ≡ record { key = at m.keys key; value = v }
    pair_new =
        rw (
          ap (λ (c : Links). at m.keys (c.key x)) round_links
              ∙ ap (at m.keys) (put_hit (at m.key_index) (vacancy (rounds_of m)) key x refl),
          get_or-set_same m.values x v 0 (rw g.sized.values place_fits),
        )

    pub round_pairs : pairs (with_round m poster key v) ≡ pairs m ++ (record { key = at m.keys key; value = v } ∷ [])
    round_pairs =
        ap (map (pair_at r)) round_order ∙ map-append (pair_at r) vs (x ∷ [])
        ∙ rw (map_same (pair_at r) (pair_at m) vs pair_old, pair_new)

    pub round_sound : Sound (with_round m poster key v)
    round_sound =
        record {
          sized = A.round_sized m g.sized poster key v;
          chained = subst Chained (sym round_links) (added_chained (links_of m) g.chained key here room);
          index = g.index;
        }

-- ---- a member

-- k is no member of m and can become one; the search for it ended at the place p of the index
pub record Admits (m : ListOrderedMultimap) (k p : ℕ) : Type 0 where
  pub sound : Sound m
  pub spare : m.members.len < max_members
  pub vacant : Vacant m.index k p
  pub new : (j : ℕ) → 0 < tally j (order (members_of m)) → at m.keys j ≢ k

pub admits : (m : ListOrderedMultimap) → Sound m → m.members.len < max_members → (k p n : ℕ) → search m.index m.keys k ≡ Absent p n → Admits m k p
admits m g spare k p n e =
    let w = says_absent m.index m.keys (order (members_of m)) k g.index p n e in
    record { sound = g; spare = spare; vacant = w.0; new = λ j i. w.1 j (tally_mem j (order (members_of m)) i) }

module _ (m : ListOrderedMultimap) (k p : ℕ) (h : Admits m k p) where
  abbrev g : Sound m
  g = h.sound

  abbrev key : ℕ
  key = spot m.members

  abbrev ks : List ℕ
  ks = order (members_of m)

  -- the map with the stores
  abbrev o : ListOrderedMultimap
  o = with_member m k p

  pub members_ends : (at m.next_key 256 ≤ 256) × (at m.previous_key 256 ≤ 256)
  members_ends = (first_fits (members_of m) g.chained.members, last_fits (members_of m) g.chained.members)

  pub member_fits : spot m.members < 256
  member_fits = vacancy_fits (members_of m) g.chained.members h.spare

  off : (j : ℕ) → 0 < tally j ks → j ≢ key
  off j i e = joined_off (links_of m) g.chained h.spare j i e

  pub member_links : links_of (with_member m k p) ≡ joined (links_of m)
  member_links = A.member_links m g.sized k p member_fits members_ends.1 h.spare g.chained.members.some_fresh

  pub member_order : order (members_of (with_member m k p)) ≡ order (members_of m) ++ (spot m.members ∷ [])
  member_order = ap (λ (c : Links). order c.members) member_links ∙ joined_order (links_of m) g.chained h.spare

  pub old_or_new : (j : ℕ) → 0 < tally j (order (members_of (with_member m k p)))
      → (j ≡ spot m.members) ⊎ (0 < tally j (order (members_of m)))
  old_or_new j i =
      ⊎_elim (λ e. inl e) (λ e. inr (omega (arith, ap (tally j) member_order, tally_append j ks (key ∷ []), tally_other j key [] e)))
      (same_or_not j key)

  pub member_here : 0 < tally (spot m.members) (order (members_of (with_member m k p)))
  member_here = omega (arith, ap (tally key) member_order, tally_append key ks (key ∷ []), tally_same key [])

  pub member_number : at (with_member m k p).keys (spot m.members) ≡ k
  member_number = get_or-set_same m.keys key k 0 (rw g.sized.keys member_fits)

  number_old : (j : ℕ) → 0 < tally j ks → at o.keys j ≡ at m.keys j
  number_old j i = get_or-set_other m.keys key j k 0 (off j i)

  holds : Holds o.index o.keys (order (members_of o))
  holds =
      let to : (j : ℕ) → Memᴰ j (key ∷ ks) → Memᴰ j (order (members_of o)) =
      λ j i. tally_mem j (order (members_of o))
      (⊎_elim (λ (e : j ≡ key). rw e member_here)
      (λ (i' : Memᴰ j ks). omega (arith, ap (tally j) member_order, tally_append j ks (key ∷ []), mem_tally j ks i'))
      (Memᴰ.cases_cons i)) in
      let back : (j : ℕ) → Memᴰ j (order (members_of o)) → Memᴰ j (key ∷ ks) =
      λ j i. ⊎_elim (λ e. Memᴰ.head e) (λ i'. Memᴰ.tail (tally_mem j ks i')) (old_or_new j (mem_tally j (order (members_of o)) i)) in
      let kept : Holds m.index o.keys ks = reread (λ j i. sym (number_old j (mem_tally j ks i))) g.index in
      let long : length ks < 256 = rw (length_order (members_of m)) h.spare in
      let apart : (j : ℕ) → Memᴰ j ks → at o.keys j ≡ at o.keys key → ⊥ =
      λ j i e. h.new j (mem_tally j ks i) (sym (number_old j (mem_tally j ks i)) ∙ e ∙ member_number) in
      relist (rw (member_order, length-append) (omega (arith, long))) to back
      (index_added m.index o.keys ks p key kept long member_fits (λ i. off key (mem_tally key ks i) refl) apart
      (rw member_number h.vacant))

  pub member_sound : Sound (with_member m k p)
  member_sound =
      record {
        sized = A.member_sized m g.sized k p;
        chained = subst Chained (sym member_links) (joined_chained (links_of m) g.chained h.spare);
        index = holds;
      }

  pub member_pairs : pairs (with_member m k p) ≡ pairs m
  member_pairs =
      map_same (pair_at o) (pair_at m) (order (rounds_of m))
      (λ q i. ap (λ (y : ℕ). record { key = y; value = at m.values q }) (number_old (at m.key_index q) (g.chained.keys q i)))

  pub member_members : members (with_member m k p) ≡ members m ++ (k ∷ [])
  member_members =
      ap (map (at o.keys)) member_order ∙ map-append (at o.keys) ks (key ∷ [])
      ∙ rw (map_same (at o.keys) (at m.keys) ks number_old, member_number)
