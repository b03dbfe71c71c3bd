-- What each call that only reads does of a well-linked map α; where it is read from a map m, that has the arrays of α. Assumes nothing.
use Prim.Native.Nat.{ℕ, ◌≤◌, ◌<◌}
use mathlib.Core.Path.{◌≡◌, refl, sym, ap, ◌∙◌}
use mathlib.Core.Logic.{◌⊎◌, ⊎_elim}
use mathlib.Core.Bool.{Bool, true, false, cond, ◌||◌, or-true}
use mathlib.Core.List.{List, map}
use mathlib.Core.Option.{some, none}
use borrow.Author.Tests.{lt-ltb, le-ltb}
use lib.ListN.{length, length-map, take}
use Rattle.steps.specs.State as St
use Rattle.steps.specs.State.{State}
use Rattle.steps.specs.Call as C
use Rattle.steps.specs.Call.{Call, Answer, Outcome, refused, count}
use Rattle.steps.specs.Step.{step, checks, act, settle, refusing, say, write, first, short, over, onto, entry_of}
use Rattle.steps.specs.Trace.{Does}
use Rattle.steps.proofs.Doing.{does_stay}
use Rattle.links.specs.Places.{order}
use Rattle.multimap.specs.declared.ListOrderedMultimap.{ListOrderedMultimap}
use Rattle.multimap.specs.Map.{at, pair_at, pairs, rounds_of, state_of}
use Rattle.multimap.specs.WellLinked.{WellLinked, linked}
use Rattle.multimap.proofs.Stores.{pair_keys, pair_values, length_pairs, length_members}
use Rattle.copying.specs.Slices.{along, writing}
use Rattle.reading.specs.Reads.{Seen, pairs_written}

-- a call that writes to one slice
module _ (out : List ℕ) (s : State) where
  step_keys : step (C.keys out) s ≡ (writing s.members out, s)
  unfolding step checks act
  step_keys = go (short out s.members)
    where
      go : (b : Bool) → settle (cond b (some 3) none) (C.keys out) s
          ≡ (cond b (write (refused 3) out) (write (count (length s.members)) (over s.members out)), s)
      go true = refl
      go false = refl

  step_get_all : (k : ℕ) → step (C.get_all k out) s ≡ (writing (St.rounds k s.pairs) out, s)
  unfolding step checks act
  step_get_all k = go (short out (St.rounds k s.pairs))
    where
      go : (b : Bool) → settle (cond b (some 3) none) (C.get_all k out) s
          ≡ (cond b (write (refused 3) out) (write (count (length (St.rounds k s.pairs))) (over (St.rounds k s.pairs) out)), s)
      go true = refl
      go false = refl

-- to two
abbrev listed : State → List ℕ → List ℕ → Outcome
listed s ks vs = pairs_written (count (length s.pairs)) (over (map (λ p. p.key) s.pairs) ks) (over (map (λ p. p.value) s.pairs) vs)

module _ (ks vs : List ℕ) (s : State) where
  step_iter_short : (short ks s.pairs || short vs s.pairs) ≡ true → step (C.iter ks vs) s ≡ (refusing (C.iter ks vs) 3, s)
  unfolding step checks act
  step_iter_short e = rw e

  step_iter : (short ks s.pairs || short vs s.pairs) ≡ false → step (C.iter ks vs) s ≡ (listed s ks vs, s)
  unfolding step checks act
  step_iter e = rw e

module _ (α : ListOrderedMultimap) (g : WellLinked α) where
  -- the calls that look a member up
  module _ (k : ℕ) {a : Answer} where
    pub does_get : a ≡ first (St.rounds k (pairs α)) → Does linked (C.get k) α (say a) α
    unfolding step checks act
    does_get e = does_stay linked (C.get k) α (say a) refl g (rw e)

    pub does_entry : a ≡ entry_of (St.present k (state_of α)) k (state_of α) → Does linked (C.entry k) α (say a) α
    unfolding step checks act
    does_entry e = does_stay linked (C.entry k) α (say a) refl g (rw e)

  pub does_entry_len : (k : ℕ) {n : ℕ} → n ≡ length (St.rounds k (pairs α)) → Does linked (C.entry_len k) α (say (count n)) α
  unfolding step checks act
  does_entry_len k {n} e = does_stay linked (C.entry_len k) α (say (count n)) refl g (rw e)

  pub does_contains : (k : ℕ) {b : Bool} → b ≡ St.present k (state_of α) → Does linked (C.contains_key k) α (say (C.present b)) α
  unfolding step checks act
  does_contains k {b} e = does_stay linked (C.contains_key k) α (say (C.present b)) refl g (rw e)

  -- the counts
  pub does_keys_len : {n : ℕ} → n ≡ α.members.len → Does linked C.keys_len α (say (count n)) α
  unfolding step checks act
  does_keys_len {n} e = does_stay linked C.keys_len α (say (count n)) refl g (rw (e, length_members α))

  pub does_values_len : {n : ℕ} → n ≡ α.rounds.len → Does linked C.values_len α (say (count n)) α
  unfolding step checks act
  does_values_len {n} e = does_stay linked C.values_len α (say (count n)) refl g (rw (e, length_pairs α))

  -- the calls that write to slices
  module _ (a : Answer) (out₀ out : List ℕ) where
    -- copied from the first place on
    pub does_keys : (m : ListOrderedMultimap) → Seen (C.keys out₀) m α → {q : ℕ} → q ≡ at m.next_key 256
        → write a out ≡ writing (along (at m.keys) (at m.next_key) q m.members.len) out₀ → Does linked (C.keys out₀) α (write a out) α
    does_keys m h i w = does_stay linked (C.keys out₀) α (write a out) refl g (step_keys out₀ (state_of α) ∙ rw (w, i, h.0, h.1, h.2))

    pub does_get_all : (k : ℕ) → write a out ≡ writing (St.rounds k (pairs α)) out₀ → Does linked (C.get_all k out₀) α (write a out) α
    does_get_all k w = does_stay linked (C.get_all k out₀) α (write a out) refl g (step_get_all out₀ (state_of α) k ∙ rw w)

  -- T, as much as the slice holds
  pub does_taken : (out₀ : List ℕ) {t : List ℕ} → t ≡ α.taken → {n : ℕ} → n ≡ length (take (length out₀) t)
      → {out : List ℕ} → out ≡ onto t out₀ → Does linked (C.taken out₀) α (write (count n) out) α
  unfolding step checks act
  does_taken out₀ same {n} many {out} e = does_stay linked (C.taken out₀) α (write (count n) out) refl g (rw (many, e, same))

  module _ (m : ListOrderedMultimap) (ks vs : List ℕ) (h : Seen (C.iter ks vs) m α) {n : ℕ} (many : n ≡ length (order (rounds_of m))) where
    places : order (rounds_of m) ≡ order (rounds_of α)
    places = rw (h.3, h.4)

    held : length (pairs α) ≡ n
    held = length-map (order (rounds_of α)) (pair_at α) ∙ sym (many ∙ ap length places)

    pub does_iter_short : (length ks < n) ⊎ (length vs < n) → Does linked (C.iter ks vs) α (refusing (C.iter ks vs) 3) α
    does_iter_short s =
        does_stay linked (C.iter ks vs) α (refusing (C.iter ks vs) 3) refl g
        (step_iter_short ks vs (state_of α)
        (⊎_elim (λ (l : length ks < n). rw (lt-ltb (length ks) (length (pairs α)) (rw held l)))
        (λ (l : length vs < n). rw (lt-ltb (length vs) (length (pairs α)) (rw held l)) (or-true (short ks (pairs α)))) s))

    -- copied from the rounds' places
    pub does_iter : n ≤ length ks → n ≤ length vs → {ks' vs' : List ℕ}
        → ks' ≡ over (map (λ x. at m.keys (at m.key_index x)) (order (rounds_of m))) ks
        → vs' ≡ over (map (at m.values) (order (rounds_of m))) vs
        → Does linked (C.iter ks vs) α (pairs_written (count n) ks' vs') α
    does_iter keys_fit values_fit {ks'} {vs'} e f =
        does_stay linked (C.iter ks vs) α (pairs_written (count n) ks' vs') refl g
        (step_iter ks vs (state_of α)
        (rw (le-ltb (length ks) (length (pairs α)) (rw held keys_fit)) (le-ltb (length vs) (length (pairs α)) (rw held values_fit)))
        ∙ rw (e, f, places, h.0, h.1, h.2, pair_keys α, pair_values α, held))
