-- Over every list of calls the accepted rounds are those held, handed out and dropped; and when an append is refused.
use mathlib.Core.Path.{◌≡◌, refl}
use mathlib.Core.Logic.{◌↔◌}
use mathlib.Core.Bool.{Bool, true, false, cond, ◌&&◌, ◌||◌, false≢true}
use mathlib.Core.List.{List, [], ◌∷◌, ◌++◌, head?, tail, drop_last}
use mathlib.Core.Option.{Option, none, some}
use Prim.Native.Nat.{ℕ, suc, ◌+◌, ◌-◌}
use native.Mathlib.Omega.{arith}
use lib.Dec.{eqb, ltb}
use lib.ListN.{length, get_or, length-append, length-map}
use borrow.Author.Tests.{leb-false, leb-true, eqb-true, not-false}
use Rattle.steps.specs.Lists.{filter, all, last?}
use Rattle.steps.specs.State.{State, Limits, Pair, empty, of, others, kept, rounds, absent, full, crowded}
use Rattle.steps.specs.Call as C
use Rattle.steps.specs.Call.{Call, Outcome, refused}
use Rattle.steps.specs.Step.{Check, checks, ahead, refusal, first, pop, act, settle, step, outcomes, after}
use Rattle.steps.specs.Accounting.{times, rounds_in, Flow, nobody, total, moved, moves, flow_of}
use Rattle.steps.specs.Proper.{Allowed, Proper}
use Rattle.steps.proofs.Filter.{length_split}
use Rattle.steps.proofs.Checks.{accepting}
use Rattle.steps.proofs.Posters.{total_plus, total_nobody, total_by}
use Rattle.steps.proofs.Proper.{Pass, passed, End, nothing, pair, front, back, proper_empty, after_proper}

-- n rounds held before, those of the flow accepted, by all posters, handed out and dropped, and m held after
abbrev pub Balanced : ℕ → Flow → ℕ → Type 0
Balanced n f m = n + total f.accepted ≡ m + f.handed + f.dropped

added : (ps : List Pair) (p : Pair) → length (ps ++ (p ∷ [])) ≡ length ps + 1
added ps p = length-append ps (p ∷ [])

-- the record of k and the pairs of the others are all of P
parted : (k : ℕ) (ps : List Pair) → length ps ≡ length (rounds k ps) + length (others k ps)
parted k ps = omega (arith, length_split (of k) ps, length-map (filter (of k) ps) (λ p. p.value))

first_rest : (l : List ℕ) → rounds_in (first l) + (length l - 1) ≡ length l
first_rest [] = refl
first_rest (v ∷ vs) = omega arith

popped_one : (s : State) (o : Option Pair) (rest : List Pair) → End s.pairs o rest → length s.pairs + total nobody ≡ length (pop o rest s).1.pairs + rounds_in (pop o rest s).0.answer + 0
popped_one s o rest nothing = omega (arith, total_nobody)
popped_one s o rest (pair h) = omega (arith, total_nobody, h.lengths)

-- marks of 0 and 1, as many as there are pairs: those kept and the marks 0 are all
marked : (ms : List ℕ) (ps : List Pair) → length ms ≡ length ps → all (λ m. eqb 0 m || eqb 1 m) ms ≡ true → length ps ≡ length (kept ms ps) + times (eqb 0) ms
marked [] [] e h = refl
marked [] (p ∷ ps) e h = omega arith
marked (m ∷ ms) [] e h = omega arith
marked (m ∷ ms) (p ∷ ps) e h = go (eqb 0 m) refl (eqb 1 m) refl h (λ a. marked ms ps (omega arith) a)
  where
    Z : ℕ
    Z = times (eqb 0) ms

    go : (b : Bool) → eqb 0 m ≡ b → (c : Bool) → eqb 1 m ≡ c → ((b || c) && all (λ m. eqb 0 m || eqb 1 m) ms) ≡ true
        → (all (λ m. eqb 0 m || eqb 1 m) ms ≡ true → length ps ≡ length (kept ms ps) + times (eqb 0) ms)
        → suc (length ps) ≡ length (cond c (p ∷ kept ms ps) (kept ms ps)) + length (cond b (m ∷ filter (eqb 0) ms) (filter (eqb 0) ms))
    go true x true y h ih = omega (arith, eqb-true)
    go true x false y h ih = omega (arith, ih h)
    go false x true y h ih = omega (arith, ih h)
    go false x false y h ih = absurd (false≢true h)

pub act_balanced : (c : Call) (s : State) → Pass (checks c s) → Balanced (length s.pairs) (moved c s (act c s).0.answer) (length (act c s).1.pairs)
unfolding checks act moved
act_balanced (C.append p k v) s h = omega (arith, total_by p h.0, added s.pairs (record { key = k; value = v }))
act_balanced (C.insert p k v) s h = omega (arith, total_by p h.0, added (others k s.pairs) (record { key = k; value = v }), parted k s.pairs, first_rest (rounds k s.pairs))
act_balanced (C.insert_all p k v out) s h = omega (arith, total_by p h.0, added (others k s.pairs) (record { key = k; value = v }), parted k s.pairs)
act_balanced (C.remove k) s h = omega (arith, total_nobody, parted k s.pairs, first_rest (rounds k s.pairs))
act_balanced (C.remove_all k out) s h = omega (arith, total_nobody, parted k s.pairs)
act_balanced (C.entry k) s h = omega (arith, total_nobody)
act_balanced (C.occupied_append p k v) s h = omega (arith, total_by p h.0, added s.pairs (record { key = k; value = v }))
act_balanced (C.occupied_insert p k v) s h = omega (arith, total_by p h.0, added (others k s.pairs) (record { key = k; value = v }), parted k s.pairs, first_rest (rounds k s.pairs))
act_balanced (C.occupied_remove_entry k) s h = omega (arith, total_nobody, parted k s.pairs, first_rest (rounds k s.pairs))
act_balanced (C.vacant_insert p k v) s h = omega (arith, total_by p h.0, added s.pairs (record { key = k; value = v }))
act_balanced C.pop_front s h = popped_one s (head? s.pairs) (tail s.pairs) (front s.pairs)
act_balanced C.pop_back s h = popped_one s (last? s.pairs) (drop_last s.pairs) (back s.pairs)
act_balanced (C.retain ms) s h = omega (arith, total_nobody, marked ms s.pairs (eqb-true _ _ (not-false _ h.0)) (not-false _ h.1.0))
act_balanced (C.pack_to m n) s h = omega (arith, total_nobody)
act_balanced C.clear s h = omega (arith, total_nobody)
act_balanced (C.get k) s h = omega (arith, total_nobody)
act_balanced (C.get_all k out) s h = omega (arith, total_nobody)
act_balanced (C.entry_len k) s h = omega (arith, total_nobody)
act_balanced (C.contains_key k) s h = omega (arith, total_nobody)
act_balanced (C.keys out) s h = omega (arith, total_nobody)
act_balanced C.keys_len s h = omega (arith, total_nobody)
act_balanced C.values_len s h = omega (arith, total_nobody)
act_balanced (C.iter ks vs) s h = omega (arith, total_nobody)
act_balanced (C.taken out) s h = omega (arith, total_nobody)

pub step_balanced : (c : Call) (s : State) → Balanced (length s.pairs) (moves c s (step c s).0) (length (step c s).1.pairs)
unfolding step
step_balanced c s = go (refusal (checks c s)) refl
  where
    go : (o : Option ℕ) → refusal (checks c s) ≡ o → Balanced (length s.pairs) (moves c s (settle o c s).0) (length (settle o c s).1.pairs)
    go none e = rw (accepting c s) (act_balanced c s (passed (checks c s) e))
    go (some n) e = omega (arith, total_nobody)

pub balanced : (cs : List Call) (s : State) → Balanced (length s.pairs) (flow_of cs s) (length (after cs s).pairs)
unfolding flow_of after
balanced [] s = omega (arith, total_nobody)
balanced (c ∷ cs) s =
    omega
    (arith, step_balanced c s, balanced cs (step c s).1, total_plus (moves c s (step c s).0).accepted (flow_of cs (step c s).1).accepted)

-- from the empty state on: accepted, of all posters summed = held + handed out + dropped
pub rounds_balanced : (l : Limits) (cs : List Call)
    → total (flow_of cs (empty l)).accepted ≡ length (after cs (empty l)).pairs + (flow_of cs (empty l)).handed + (flow_of cs (empty l)).dropped
rounds_balanced l cs = omega (arith, balanced cs (empty l))

-- an append that no row before 1 refuses is refused by 1 exactly when the limit of rounds is held
pub append_refused : (p k v : ℕ) (s : State) → Proper s → refusal (ahead 1 (checks (C.append p k v) s)) ≡ none
    → ((step (C.append p k v) s).0.answer ≡ refused 1) ↔ (length s.pairs ≡ s.limits.rounds)
unfolding step checks act
append_refused p k v s w = go (ltb 15 p) (full s) (absent k s && crowded s) refl
  where
    rows : Bool → Bool → Bool → List Check
    rows a b c = (a, 16) ∷ (b, 1) ∷ (c, 2) ∷ []

    go : (a b c : Bool) → full s ≡ b → refusal (ahead 1 (rows a b c)) ≡ none
        → ((settle (refusal (rows a b c)) (C.append p k v) s).0.answer ≡ refused 1) ↔ (length s.pairs ≡ s.limits.rounds)
    go true b c e f = absurd (let z : ◌≡◌ {A = ℕ} 0 1 = cc in omega arith)
    go false true c e f = (λ h. omega (arith, leb-true, w.rounds), λ h. refl)
    go false false true e f = (λ h. absurd (let z : ◌≡◌ {A = ℕ} 0 1 = cc in omega arith), λ h. absurd (omega (arith, leb-false)))
    go false false false e f = (λ h. absurd (let z : ◌≡◌ {A = ℕ} 0 1 = cc in omega arith), λ h. absurd (omega (arith, leb-false)))

-- the outcome of a call that stands in a list
pub outcome_at : (before : List Call) (c : Call) (rest : List Call) (s : State) (d : Outcome)
    → get_or (outcomes (before ++ c ∷ rest) s) (length before) d ≡ (step c (after before s)).0
unfolding outcomes after
outcome_at [] c rest s d = refl
outcome_at (b ∷ bs) c rest s d = outcome_at bs c rest (step b s).1 d

-- the same of every append in a list
pub appends_refused : (l : Limits) → Allowed l → (before rest : List Call) (p k v : ℕ) (d : Outcome)
    → refusal (ahead 1 (checks (C.append p k v) (after before (empty l)))) ≡ none
    → ((get_or (outcomes (before ++ C.append p k v ∷ rest) (empty l)) (length before) d).answer ≡ refused 1) ↔ (length (after before (empty l)).pairs ≡ (after before (empty l)).limits.rounds)
appends_refused l a before rest p k v d h =
    rw (outcome_at before (C.append p k v) rest (empty l) d)
    (append_refused p k v (after before (empty l)) (after_proper before (empty l) (proper_empty l a)) h)
