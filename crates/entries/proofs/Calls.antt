-- The entry calls on a well-linked map, by what `entry` answered of the member. Assumes nothing.
use Prim.Native.Nat.{ℕ}
use mathlib.Core.Path.{◌≡◌, refl}
use mathlib.Core.Bool.{true, false}
use lib.Dec.{ltb}
use Rattle.std.specs.Prelude.{Result, Err, IsErrAnd}
use Rattle.steps.specs.State.{present}
use Rattle.steps.specs.Call as C
use Rattle.steps.specs.Call.{Call, Answer, lent, occupied, vacant}
use Rattle.steps.specs.Step.{step, refusing, say}
use Rattle.steps.specs.Step as S
use Rattle.steps.specs.Trace.{Does}
use Rattle.steps.proofs.Checks.{vacant_present}
use Rattle.steps.proofs.Doing.{does_refuse, does_as}
use Rattle.answers.specs.Answers.{answered}
use Rattle.answers.specs.declared.Refusal.{Refusal}
use Rattle.answers.proofs.Handed.{handed_on}
use Rattle.multimap.specs.declared.ListOrderedMultimap.{ListOrderedMultimap}
use Rattle.multimap.specs.Map.{state_of}
use Rattle.multimap.specs.WellLinked.{WellLinked, linked}
use Rattle.reading.specs.Reads.{Reads}
use Rattle.entries.specs.Occupying.{Occupying}
use Rattle.entries.proofs.Entries.{done_unless, entered, is_occupied, is_vacant, occupied_append_is, occupied_insert_is, occupied_remove_is, vacant_insert_is, does_quiet}

module _ (α : ListOrderedMultimap) (g : WellLinked α) (k : ℕ) where
  -- what was answered is the entry
  answer : {a : Answer} → Reads (C.entry k) (say a) α → a ≡ S.entry_of (present k (state_of α)) k (state_of α)
  answer e = entered k (state_of α) (e α (refl, refl, refl) g).outcome

  pub there : {n : ℕ} → Reads (C.entry k) (say (occupied n)) α → present k (state_of α) ≡ true
  there e = is_occupied _ k (state_of α) (answer e)

  pub none_such : {m : ℕ} → Reads (C.entry k) (say (vacant m)) α → present k (state_of α) ≡ false
  none_such e = is_vacant _ k (state_of α) (answer e)

  -- a poster asks
  module _ (p v : ℕ) (known : ltb 15 p ≡ false) where
    -- for a member
    module _ (here : present k (state_of α) ≡ true) where
      pub appended : (a : Answer) (r : ListOrderedMultimap) → Does linked (C.append p k v) α (say a) r → Does linked (C.occupied_append p k v) α (say (done_unless a)) r
      appended a r d = does_quiet linked (C.append p k v) (C.occupied_append p k v) α a r refl (occupied_append_is p k v (state_of α) known here) d

      pub inserted : (a : Answer) (r : ListOrderedMultimap) → Does linked (C.insert p k v) α (say a) r → Does linked (C.occupied_insert p k v) α (say a) r
      inserted a r d = does_as linked (C.insert p k v) α (C.occupied_insert p k v) (say a) r refl (occupied_insert_is p k v (state_of α) known here) d

      pub not_new : Does linked (C.vacant_insert p k v) α (say (C.refused 10)) α
      not_new = does_refuse linked (C.vacant_insert p k v) α 10 g (vacant_present p k v (state_of α) known here)

    -- for a number that is none
    pub let_in : present k (state_of α) ≡ false → (a : Answer) (r : ListOrderedMultimap) → Does linked (C.append p k v) α (say a) r
        → Does linked (C.vacant_insert p k v) α (say (done_unless a)) r
    let_in none a r d = does_quiet linked (C.append p k v) (C.vacant_insert p k v) α a r refl (vacant_insert_is p k v (state_of α) known none) d

  pub removed : present k (state_of α) ≡ true → (a : Answer) (r : ListOrderedMultimap) → Does linked (C.remove k) α (say a) r
      → Does linked (C.occupied_remove_entry k) α (say a) r
  removed here a r d = does_as linked (C.remove k) α (C.occupied_remove_entry k) (say a) r refl (occupied_remove_is k (state_of α) here) d

  -- c is refused by 9 where `check_occupied` refuses, and hands the refusal on
  pub unoccupied : (c : Call) → (present k (state_of α) ≡ false → step c (state_of α) ≡ (refusing c 9, state_of α))
      → {A : Type 0} (f : A → Answer) (r : Result A Refusal) (e : Refusal) → Occupying (present k (state_of α)) (Err e) → IsErrAnd r (λ y. y ≡ e)
      → Does linked c α (record { answer = answered f r; slices = lent c }) α
  unoccupied c s f r e o i = handed_on f r e i (rw o.1 (does_refuse linked c α 9 g (s o.0)))
