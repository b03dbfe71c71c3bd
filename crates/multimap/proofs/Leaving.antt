-- Rounds are struck and the members without one leave: the map is well-linked, and its state is the old one with the pairs and members that are left. Assumes nothing.
use Prim.Native.Nat.{ℕ, suc, ◌<◌}
use mathlib.Core.Path.{◌≡◌, refl, sym, ap, ◌∙◌, subst}
use mathlib.Core.Logic.{◌≢◌, ⊎_elim}
use mathlib.Core.Bool.{Bool, true, false, not, ◌||◌}
use mathlib.Core.List.{List, [], ◌∷◌, map}
use native.Mathlib.Omega.{arith}
use borrow.Author.Tests.{eq-eqb, ne_eqb, eqb-false}
use lib.Dec.{eqb}
use lib.ListN.{length}
use Rattle.steps.specs.Lists.{filter}
use Rattle.steps.specs.State.{has, keep as keeping}
use Rattle.links.specs.Route.{pick, tally, keep, strip}
use Rattle.links.specs.Places.{Places, order}
use Rattle.links.specs.Links.{record_of, record_in}
use Rattle.links.proofs.Routes.{same_or_not, tally_same, tally_hit, tally_other, keep_all, keep_same, tally_keep, length_keep}
use Rattle.links.proofs.Lists.{length_order}
use Rattle.links.proofs.Strips.{strip_keep, length_strip}
use Rattle.multimap.specs.Map.{at, pair_at, pairs, members, rounds_of, members_of, links_of, state_of}
use Rattle.multimap.specs.WellLinked.{WellLinked, Limited}
use Rattle.multimap.specs.declared.ListOrderedMultimap.{ListOrderedMultimap}
use Rattle.multimap.proofs.Records.{filter_map, same_number}
use Rattle.multimap.proofs.States.{limited_less}
use Rattle.multimap.specs.Strike.{Struck}
use Rattle.multimap.specs.Sweep.{Sound, Swept}

-- a member has a pair exactly where its record has a place
module _ (m : ListOrderedMultimap) (g : WellLinked m) (k : ℕ) (i : 0 < tally k (order (members_of m))) where
  pub has_size : (vs : List ℕ) → ((q : ℕ) → 0 < tally q vs → 0 < tally (at m.key_index q) (order (members_of m)))
      → has (at m.keys k) (map (pair_at m) vs) ≡ not (eqb (length (record_of (at m.key_index) k vs)) 0)
  has_size [] h = sym (ap not (eq-eqb 0 0 refl))
  has_size (v ∷ vs) h =
      ap (λ (b : Bool). b || has (at m.keys k) (map (pair_at m) vs)) (same_number m.index m.keys (order (members_of m)) g.index (at m.key_index v) k (h v (rw tally_same (omega arith))) i)
      ∙ go (eqb (at m.key_index v) k) (has_size vs (λ q j. h q (omega arith)))
    where
      go : (b : Bool) → has (at m.keys k) (map (pair_at m) vs) ≡ not (eqb (length (record_of (at m.key_index) k vs)) 0)
          → (b || has (at m.keys k) (map (pair_at m) vs))
          ≡ not (eqb (length (pick b (v ∷ record_of (at m.key_index) k vs) (record_of (at m.key_index) k vs))) 0)
      go true e = sym (ap not (ne_eqb (suc (length (record_of (at m.key_index) k vs))) 0 (λ u. omega arith)))
      go false e = e

module _ (m : ListOrderedMultimap) (g : WellLinked m) (ws : List ℕ) (o : ListOrderedMultimap) (s : Struck m ws o) where
  same_members : order (members_of o) ≡ order (members_of m)
  same_members = ap order s.kept.members

  pub struck_sound : Sound o
  struck_sound =
      record {
        sized = s.sized;
        chained = s.chained;
        index = rw (s.kept.index, s.kept.keys, same_members) g.index;
      }

  -- the places left are places of the rounds
  pub member_still : (q : ℕ) → 0 < tally q (order (rounds_of o)) → 0 < tally (at m.key_index q) (order (members_of m))
  member_still q i =
      subst (λ (l : List ℕ). 0 < tally (at m.key_index q) l) same_members
      (rw (ap (λ (l : List _). at l q) s.kept.key_index) at (s.chained.keys q i))

  -- what is left of the members: those with a round
  abbrev with_round_lem : ℕ → Bool
  with_round_lem k = not (eqb (at o.lengths k) 0)

  pub length_now : (k : ℕ) → 0 < tally k (order (members_of m)) → at o.lengths k ≡ length (record_of (at m.key_index) k (order (rounds_of o)))
  length_now k i =
      s.chained.size k (subst (λ (l : List ℕ). 0 < tally k l) (sym same_members) i)
      ∙ ap (λ (l : List _). length (record_of (at l) k (order (rounds_of o)))) s.kept.key_index

  module _ (us : List ℕ) (r : ListOrderedMultimap) (w : Swept o us r) (leavers : strip us (order (members_of o)) ≡ keep with_round_lem (order (members_of o))) where
    left : order (members_of r) ≡ keep with_round_lem (order (members_of o))
    left = w.left ∙ leavers

    pub left_linked : WellLinked r
    left_linked =
        record {
          sized = w.sound.sized;
          chained = w.sound.chained;
          some =
              λ k i.
              let z : 0 < at o.lengths k = go k (eqb (at o.lengths k) 0) refl (subst (λ (l : List ℕ). 0 < tally k l) left i) in
              omega (arith, w.sound.chained.size k i, ap (λ (l : List ℕ). at l k) w.kept.lengths);
          index = w.sound.index;
          taken = rw (w.kept.ledger.taken, s.kept.ledger.taken) g.taken;
          limited = limited;
        }
      where
        limited : Limited r
        limited =
            limited_less m r g.limited (w.kept.ledger.limits ∙ s.kept.ledger.limits)
            (omega (
              arith,
              length_order (members_of r),
              ap length left,
              length_keep with_round_lem (order (members_of o)),
              ap length same_members,
              length_order (members_of m),
            ))
            (omega (
              arith,
              length_order (rounds_of r),
              ap (λ (l : Places). length (order l)) w.kept.rounds,
              ap length s.left,
              length_strip ws (order (rounds_of m)),
              length_order (rounds_of m),
            ))

        go : (k : ℕ) (b : Bool) → eqb (at o.lengths k) 0 ≡ b → 0 < tally k (keep with_round_lem (order (members_of o))) → 0 < at o.lengths k
        go k true e i = absurd (omega (arith, i, tally_keep with_round_lem k (order (members_of o)), ap (λ (b : Bool). pick (not b) (tally k (order (members_of o))) 0) e))
        go k false e i = let n = eqb-false (at o.lengths k) 0 e in omega arith

    pairs_now : pairs r ≡ map (pair_at m) (order (rounds_of o))
    pairs_now =
        ap (λ (l : Places). map (pair_at r) (order l)) w.kept.rounds
        ∙ rw (w.kept.keys ∙ s.kept.keys, w.kept.values ∙ s.kept.values, w.kept.key_index ∙ s.kept.key_index)

    members_now : members r ≡ filter (λ n. has n (map (pair_at m) (order (rounds_of o)))) (members m)
    members_now =
        ap (λ (l : List ℕ). map (at l) (order (members_of r))) (w.kept.keys ∙ s.kept.keys)
        ∙ ap (map (at m.keys)) (left ∙ ap (keep with_round_lem) same_members
        ∙ keep_same with_round_lem (λ k. has (at m.keys k) (map (pair_at m) (order (rounds_of o)))) (order (members_of m))
        (λ k i. ap (λ (n : ℕ). not (eqb n 0)) (length_now k i) ∙ sym (has_size m g k i (order (rounds_of o)) member_still)))
        ∙ sym (filter_map (λ n. has n (map (pair_at m) (order (rounds_of o)))) (at m.keys) (order (members_of m)))

    pub left_state : state_of r ≡ keeping (map (pair_at m) (order (rounds_of o))) (state_of m)
    left_state = rw (pairs_now, members_now, w.kept.ledger.taken ∙ s.kept.ledger.taken, w.kept.ledger.limits ∙ s.kept.ledger.limits)

-- every member of a well-linked map has a pair
pub all_have : (m : ListOrderedMultimap) → WellLinked m → filter (λ n. has n (pairs m)) (members m) ≡ members m
all_have m g =
    filter_map (λ n. has n (pairs m)) (at m.keys) (order (members_of m))
    ∙ ap (map (at m.keys)) (keep_all (λ k. has (at m.keys k) (pairs m)) (order (members_of m)) (λ k i. has_size m g k i (order (rounds_of m)) g.chained.keys
    ∙ ap not (ne_eqb (length (record_in (links_of m) k)) 0 (λ e. omega (arith, g.some k i, e)))))

-- where only the member place k may be without a round, only it may leave
pub leaves_one : (size : ℕ → ℕ) (k : ℕ) (ks : List ℕ) → ((j : ℕ) → 0 < tally j ks → j ≢ k → size j ≢ 0)
    → strip (keep (λ j. eqb (size j) 0) (k ∷ [])) ks ≡ keep (λ j. not (eqb (size j) 0)) ks
leaves_one size k ks h =
    strip_keep (keep (λ j. eqb (size j) 0) (k ∷ [])) ks
    ∙ keep_same (λ j. eqb (tally j (keep (λ j. eqb (size j) 0) (k ∷ []))) 0) (λ j. not (eqb (size j) 0)) ks (λ j i. go j i (eqb (size k) 0) refl)
  where
    go : (j : ℕ) → 0 < tally j ks → (b : Bool) → eqb (size k) 0 ≡ b → eqb (tally j (pick b (k ∷ []) [])) 0 ≡ not (eqb (size j) 0)
    go j i true e =
        ⊎_elim (λ (u : j ≡ k). ne_eqb (tally j (k ∷ [])) 0 (λ z. omega (arith, tally_hit j k [] u, z)) ∙ sym (ap not (ap (λ (y : ℕ). eqb (size y) 0) u ∙ e)))
        (λ (u : j ≢ k). eq-eqb _ 0 (tally_other j k [] u) ∙ sym (ap not (ne_eqb (size j) 0 (h j i u)))) (same_or_not j k)
    go j i false e =
        ⊎_elim (λ (u : j ≡ k). sym (ap not (ap (λ (y : ℕ). eqb (size y) 0) u ∙ e)))
        (λ (u : j ≢ k). sym (ap not (ne_eqb (size j) 0 (h j i u)))) (same_or_not j k)
