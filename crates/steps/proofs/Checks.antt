-- What a refusal leaves, and which comes first where several conditions hold (document 01, "When a call is refused"). Assumes nothing.
use mathlib.Core.Path.{◌≡◌, refl, sym, ◌∙◌}
use mathlib.Core.Bool.{Bool, true, false, cond, true≢false}
use mathlib.Core.List.{List, [], ◌∷◌, head?, tail, drop_last}
use mathlib.Core.Option.{Option, none, some}
use Prim.Native.Nat.{ℕ}
use lib.Dec.{eqb, ltb}
use lib.ListN.{length}
use Rattle.steps.specs.State as St
use Rattle.steps.specs.Lists.{last?}
use Rattle.steps.specs.State.{State, Pair, full, crowded, absent, rounds}
use Rattle.steps.specs.Call as C
use Rattle.steps.specs.Call.{Call, view, posts, lent, present}
use Rattle.steps.specs.Step.{checks, refusal, refusing, first, entry_of, pop, act, settle, step, say, short}
use Rattle.steps.specs.Accounting.{is_refused}

-- a call that is not refused does not answer that it is
accepting_first : (l : List ℕ) → is_refused (first l) ≡ false
accepting_first [] = refl
accepting_first (v ∷ vs) = refl

accepting_pop : (o : Option Pair) (rest : List Pair) (s : State) → is_refused (pop o rest s).0.answer ≡ false
accepting_pop none rest s = refl
accepting_pop (some p) rest s = refl

accepting_entry : (b : Bool) (k : ℕ) (s : State) → is_refused (entry_of b k s) ≡ false
accepting_entry true k s = refl
accepting_entry false k s = refl

pub accepting : (c : Call) (s : State) → is_refused (act c s).0.answer ≡ false
unfolding act
accepting (C.append p k v) s = refl
accepting (C.insert p k v) s = accepting_first (rounds k s.pairs)
accepting (C.insert_all p k v out) s = refl
accepting (C.remove k) s = accepting_first (rounds k s.pairs)
accepting (C.remove_all k out) s = refl
accepting (C.entry k) s = accepting_entry (St.present k s) k s
accepting (C.occupied_append p k v) s = refl
accepting (C.occupied_insert p k v) s = accepting_first (rounds k s.pairs)
accepting (C.occupied_remove_entry k) s = accepting_first (rounds k s.pairs)
accepting (C.vacant_insert p k v) s = refl
accepting C.pop_front s = accepting_pop (head? s.pairs) (tail s.pairs) s
accepting C.pop_back s = accepting_pop (last? s.pairs) (drop_last s.pairs) s
accepting (C.retain ms) s = refl
accepting (C.pack_to m n) s = refl
accepting C.clear s = refl
accepting (C.get k) s = accepting_first (rounds k s.pairs)
accepting (C.get_all k out) s = refl
accepting (C.entry_len k) s = refl
accepting (C.contains_key k) s = refl
accepting (C.keys out) s = refl
accepting C.keys_len s = refl
accepting C.values_len s = refl
accepting (C.iter ks vs) s = refl
accepting (C.taken out) s = refl

-- a refused call leaves the slices and the state as they were
pub refused_unchanged : (c : Call) (s : State) → is_refused (step c s).0.answer ≡ true → ((step c s).0.slices ≡ lent c) × ((step c s).1 ≡ s)
unfolding step
refused_unchanged c s = go (refusal (checks c s))
  where
    go : (o : Option ℕ) → is_refused (settle o c s).0.answer ≡ true → ((settle o c s).0.slices ≡ lent c) × ((settle o c s).1 ≡ s)
    go none h = absurd (true≢false (sym h ∙ accepting c s))
    go (some n) h = (refl, refl)

-- a call that adds a round and names no poster is refused by 16, whatever else holds
pub poster_first : (c : Call) (s : State) → posts (view c).number ≡ true → ltb 15 (view c).poster ≡ true → step c s ≡ (refusing c 16, s)
unfolding step checks
poster_first (C.append p k v) s h e = rw e refl
poster_first (C.insert p k v) s h e = rw e refl
poster_first (C.insert_all p k v out) s h e = rw e refl
poster_first (C.occupied_append p k v) s h e = rw e refl
poster_first (C.occupied_insert p k v) s h e = rw e refl
poster_first (C.vacant_insert p k v) s h e = rw e refl
poster_first (C.remove k) s h e = absurd (true≢false (sym h))
poster_first (C.remove_all k out) s h e = absurd (true≢false (sym h))
poster_first (C.entry k) s h e = absurd (true≢false (sym h))
poster_first (C.occupied_remove_entry k) s h e = absurd (true≢false (sym h))
poster_first C.pop_front s h e = absurd (true≢false (sym h))
poster_first C.pop_back s h e = absurd (true≢false (sym h))
poster_first (C.retain marks) s h e = absurd (true≢false (sym h))
poster_first (C.pack_to m n) s h e = absurd (true≢false (sym h))
poster_first C.clear s h e = absurd (true≢false (sym h))
poster_first (C.get k) s h e = absurd (true≢false (sym h))
poster_first (C.get_all k out) s h e = absurd (true≢false (sym h))
poster_first (C.entry_len k) s h e = absurd (true≢false (sym h))
poster_first (C.contains_key k) s h e = absurd (true≢false (sym h))
poster_first (C.keys out) s h e = absurd (true≢false (sym h))
poster_first C.keys_len s h e = absurd (true≢false (sym h))
poster_first C.values_len s h e = absurd (true≢false (sym h))
poster_first (C.iter ks vs) s h e = absurd (true≢false (sym h))
poster_first (C.taken out) s h e = absurd (true≢false (sym h))

-- an OccupiedEntry call of an absent member is refused by 9, whatever else holds; one that adds a round, where a poster makes it
pub remove_entry_absent : (k : ℕ) (s : State) → absent k s ≡ true
    → step (C.occupied_remove_entry k) s ≡ (refusing (C.occupied_remove_entry k) 9, s)
unfolding step checks
remove_entry_absent k s h = rw h refl

module _ (p k v : ℕ) (s : State) (known : ltb 15 p ≡ false) where
  pub occupied_absent : absent k s ≡ true
      → (step (C.occupied_append p k v) s ≡ (refusing (C.occupied_append p k v) 9, s))
      × (step (C.occupied_insert p k v) s ≡ (refusing (C.occupied_insert p k v) 9, s))
  unfolding step checks
  occupied_absent h = (rw (known, h) refl, rw (known, h) refl)

  -- VacantEntry::insert of a present member by 10
  pub vacant_present : St.present k s ≡ true → step (C.vacant_insert p k v) s ≡ (refusing (C.vacant_insert p k v) 10, s)
  unfolding step checks
  vacant_present h = rw (known, h) refl

  -- on a full map 1 comes before 2
  pub append_full : full s ≡ true → step (C.append p k v) s ≡ (refusing (C.append p k v) 1, s)
  unfolding step checks
  append_full f = rw (known, f) refl

  -- a new member is refused by 2 where 256 are held
  pub append_crowded : full s ≡ false → St.present k s ≡ false → crowded s ≡ true → step (C.append p k v) s ≡ (refusing (C.append p k v) 2, s)
  unfolding step checks
  append_crowded f a c = rw (known, f, a, c) refl

  -- a known member's append passes where there is room for the round, however many members there are
  pub append_known : full s ≡ false → St.present k s ≡ true → (step (C.append p k v) s).0 ≡ say (present true)
  unfolding step checks act
  append_known f a = rw (known, f, a, a) refl

  -- insert_all of a present member is refused by 3 or not at all: the old pairs make way first
  pub insert_all_present : (out : List ℕ) → St.present k s ≡ true
      → refusal (checks (C.insert_all p k v out) s) ≡ cond (short out (rounds k s.pairs)) (some 3) none
  unfolding checks
  insert_all_present out a = rw (known, a) refl

  -- and insert of a present member is never refused
  pub insert_present : St.present k s ≡ true → refusal (checks (C.insert p k v) s) ≡ none
  unfolding checks
  insert_present a = rw (known, a) refl

module _ (s : State) where
  -- a wrong number of marks is refused by 7, whatever the marks are
  pub retain_count : (marks : List ℕ) → eqb (length marks) (length s.pairs) ≡ false → step (C.retain marks) s ≡ (refusing (C.retain marks) 7, s)
  unfolding step checks
  retain_count marks h = rw h refl

  -- pack_to: 4 before 5 before 6
  pub pack_members : (m n : ℕ) → ltb m (length s.members) ≡ true → step (C.pack_to m n) s ≡ (refusing (C.pack_to m n) 4, s)
  unfolding step checks
  pack_members m n h = rw h refl

  pub pack_rounds : (m n : ℕ) → ltb m (length s.members) ≡ false → ltb n (length s.pairs) ≡ true → step (C.pack_to m n) s ≡ (refusing (C.pack_to m n) 5, s)
  unfolding step checks
  pack_rounds m n h i = rw (h, i) refl
