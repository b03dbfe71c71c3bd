-- The entry calls' steps, from those of `append`, `insert` and `remove`; and what the answer of `entry` says of the member. Assumes nothing.
use Prim.Native.Nat.{ℕ}
use mathlib.Core.Path.{◌≡◌, refl, sym, ap, ◌∙◌}
use mathlib.Core.Bool.{Bool, true, false, true≢false, cond}
use lib.Dec.{ltb}
use Rattle.steps.specs.State.{State, present, full, crowded}
use Rattle.steps.specs.Call as C
use Rattle.steps.specs.Call.{Call, Answer, Outcome, packs, occupied, vacant}
use Rattle.steps.specs.Step.{step, checks, act, say}
use Rattle.steps.specs.Step as S
use Rattle.steps.specs.Accounting.{is_refused}
use Rattle.steps.specs.Trace.{Kind, Does}

-- ---- the steps

-- done, unless refused
abbrev pub done_unless : Answer → Answer
done_unless a = cond (is_refused a) a C.done

-- the outcome told only as done
abbrev quiet : Outcome × State → Outcome × State
quiet r = (say (done_unless r.0.answer), r.1)

module _ (p k v : ℕ) (s : State) (known : ltb 15 p ≡ false) where
  pub occupied_append_is : present k s ≡ true → step (C.occupied_append p k v) s ≡ quiet (step (C.append p k v) s)
  unfolding step checks act
  occupied_append_is h = go (full s) refl
    where
      go : (f : Bool) → full s ≡ f → step (C.occupied_append p k v) s ≡ quiet (step (C.append p k v) s)
      go true f = simp (known, h, f) refl
      go false f = simp (known, h, f) refl

  pub vacant_insert_is : present k s ≡ false → step (C.vacant_insert p k v) s ≡ quiet (step (C.append p k v) s)
  unfolding step checks act
  vacant_insert_is h = go (full s) (crowded s) refl refl
    where
      go : (f c : Bool) → full s ≡ f → crowded s ≡ c → step (C.vacant_insert p k v) s ≡ quiet (step (C.append p k v) s)
      go true c f g = simp (known, h, f) refl
      go false true f g = simp (known, h, f, g) refl
      go false false f g = simp (known, h, f, g) refl

  pub occupied_insert_is : present k s ≡ true → step (C.insert p k v) s ≡ step (C.occupied_insert p k v) s
  unfolding step checks act
  occupied_insert_is h = rw (known, h, h) refl

pub occupied_remove_is : (k : ℕ) (s : State) → present k s ≡ true → step (C.remove k) s ≡ step (C.occupied_remove_entry k) s
unfolding step checks act
occupied_remove_is k s h = rw h refl

-- ---- the answer of `entry`

pub entered : (k : ℕ) (s : State) {a : Answer} → say a ≡ (step (C.entry k) s).0 → a ≡ S.entry_of (present k s) k s
unfolding step checks act
entered k s e = ap (λ (o : Outcome). o.answer) e

pub is_occupied : {n : ℕ} (b : Bool) (k : ℕ) (s : State) → occupied n ≡ S.entry_of b k s → b ≡ true
is_occupied true k s e = refl
is_occupied false k s e = cc

pub is_vacant : {m : ℕ} (b : Bool) (k : ℕ) (s : State) → vacant m ≡ S.entry_of b k s → b ≡ false
is_vacant true k s e = cc
is_vacant false k s e = refl

-- ---- a call whose step is another's, told only as done

still_refused : (a : Answer) → is_refused (done_unless a) ≡ true → is_refused a ≡ true
still_refused a h = go (is_refused a) refl
  where
    go : (b : Bool) → is_refused a ≡ b → is_refused a ≡ true
    go true e = e
    go false e = absurd (true≢false (sym h ∙ simp e))

pub does_quiet : {Map : Type 0} (M : Kind Map) (c d : Call) (m : Map) (a : Answer) (m' : Map) → packs d ≡ false → step d (M.abs m) ≡ quiet (step c (M.abs m))
    → Does M c m (say a) m' → Does M d m (say (done_unless a)) m'
does_quiet M c d m a m' p e h =
    record {
      outcome = ap (λ (o : Outcome). say (done_unless o.answer)) h.outcome ∙ sym (ap (λ (r : Outcome × State). r.0) e);
      state = h.state ∙ sym (ap (λ (r : Outcome × State). r.1) e);
      linked = h.linked;
      same = λ r. h.same (still_refused a r);
      packed = λ a b i r. absurd (true≢false (sym (ap packs i) ∙ p));
    }
