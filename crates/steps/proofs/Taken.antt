-- Each counter of T counts its poster's adds that are not refused, up to its ceiling. Assumes nothing.
use mathlib.Core.Path.{◌≡◌, refl, sym, ◌∙◌}
use mathlib.Core.Bool.{false}
use mathlib.Core.List.{List, [], ◌∷◌, append-nil, head?, tail, drop_last}
use mathlib.Core.Option.{Option, none, some}
use Prim.Native.Nat.{ℕ, ◌+◌, ◌≤◌, min}
use native.Mathlib.Omega.{arith}
use lib.Dec.{ltb}
use lib.ListN.{length, get_or}
use lib.Seq.{take-length, drop-length}
use borrow.Author.Tests.{ltb-false}
use Rattle.steps.specs.Lists.{last?}
use Rattle.steps.specs.State.{State, Limits, Pair, empty, max_taken, posters, counting}
use Rattle.steps.specs.Call.{Call, count}
use Rattle.steps.specs.Call as C
use Rattle.steps.specs.Step.{checks, refusal, pop, act, settle, step, after, write}
use Rattle.steps.specs.Accounting.{by, moved, moves, flow_of}
use Rattle.steps.specs.Proper.{Allowed, Proper}
use Rattle.steps.proofs.Proper.{Pass, passed, step_proper, proper_empty}
use Rattle.steps.proofs.Checks.{accepting}
use Rattle.steps.proofs.Posters.{counting_at, repeated}

pop_taken : (o : Option Pair) (rest : List Pair) (s : State) → (pop o rest s).1.taken ≡ s.taken
pop_taken none rest s = refl
pop_taken (some p) rest s = refl

-- what a call that adds no round leaves as it was
same : (n : ℕ) → n ≤ max_taken → n ≡ min (n + 0) max_taken
same n h = omega arith

-- a poster's counter
counted : (p q : ℕ) (s : State) → Proper s → ltb 15 p ≡ false → get_or (counting p s.taken) q 0 ≡ min (get_or s.taken q 0 + by p q) max_taken
counted p q s w h = counting_at p q s.taken (omega (arith, w.posters, ltb-false 15 p h)) (w.taken q)

act_taken : (c : Call) (s : State) → Proper s → Pass (checks c s) → (q : ℕ)
    → get_or (act c s).1.taken q 0 ≡ min (get_or s.taken q 0 + (moved c s (act c s).0.answer).accepted q) max_taken
unfolding checks act moved
act_taken (C.append p k v) s w h q = counted p q s w h.0
act_taken (C.insert p k v) s w h q = counted p q s w h.0
act_taken (C.insert_all p k v out) s w h q = counted p q s w h.0
act_taken (C.remove k) s w h q = same (get_or s.taken q 0) (w.taken q)
act_taken (C.remove_all k out) s w h q = same (get_or s.taken q 0) (w.taken q)
act_taken (C.entry k) s w h q = same (get_or s.taken q 0) (w.taken q)
act_taken (C.occupied_append p k v) s w h q = counted p q s w h.0
act_taken (C.occupied_insert p k v) s w h q = counted p q s w h.0
act_taken (C.occupied_remove_entry k) s w h q = same (get_or s.taken q 0) (w.taken q)
act_taken (C.vacant_insert p k v) s w h q = counted p q s w h.0
act_taken C.pop_front s w h q = rw (pop_taken (head? s.pairs) (tail s.pairs) s) (same (get_or s.taken q 0) (w.taken q))
act_taken C.pop_back s w h q = rw (pop_taken (last? s.pairs) (drop_last s.pairs) s) (same (get_or s.taken q 0) (w.taken q))
act_taken (C.retain ms) s w h q = same (get_or s.taken q 0) (w.taken q)
act_taken (C.pack_to m n) s w h q = same (get_or s.taken q 0) (w.taken q)
act_taken C.clear s w h q = same (get_or s.taken q 0) (w.taken q)
act_taken (C.get k) s w h q = same (get_or s.taken q 0) (w.taken q)
act_taken (C.get_all k out) s w h q = same (get_or s.taken q 0) (w.taken q)
act_taken (C.entry_len k) s w h q = same (get_or s.taken q 0) (w.taken q)
act_taken (C.contains_key k) s w h q = same (get_or s.taken q 0) (w.taken q)
act_taken (C.keys out) s w h q = same (get_or s.taken q 0) (w.taken q)
act_taken C.keys_len s w h q = same (get_or s.taken q 0) (w.taken q)
act_taken C.values_len s w h q = same (get_or s.taken q 0) (w.taken q)
act_taken (C.iter ks vs) s w h q = same (get_or s.taken q 0) (w.taken q)
act_taken (C.taken out) s w h q = same (get_or s.taken q 0) (w.taken q)

step_taken : (c : Call) (s : State) → Proper s → (q : ℕ)
    → get_or (step c s).1.taken q 0 ≡ min (get_or s.taken q 0 + (moves c s (step c s).0).accepted q) max_taken
unfolding step
step_taken c s w q = go (refusal (checks c s)) refl
  where
    go : (o : Option ℕ) → refusal (checks c s) ≡ o
        → get_or (settle o c s).1.taken q 0 ≡ min (get_or s.taken q 0 + (moves c s (settle o c s).0).accepted q) max_taken
    go none e = rw (accepting c s) (act_taken c s w (passed (checks c s) e) q)
    go (some n) e = same (get_or s.taken q 0) (w.taken q)

counts : (cs : List Call) (s : State) → Proper s → (q : ℕ)
    → get_or (after cs s).taken q 0 ≡ min (get_or s.taken q 0 + (flow_of cs s).accepted q) max_taken
unfolding after flow_of
counts [] s w q = same (get_or s.taken q 0) (w.taken q)
counts (c ∷ cs) s w q = omega (arith, w.taken q, step_taken c s w q, counts cs (step c s).1 (step_proper c s w) q)

-- from the empty state on: each counter of T is the rounds accepted from its poster, or its ceiling
pub taken_counts : (l : Limits) → Allowed l → (cs : List Call) (q : ℕ)
    → get_or (after cs (empty l)).taken q 0 ≡ min ((flow_of cs (empty l)).accepted q) max_taken
taken_counts l a cs q = omega (arith, repeated ℕ posters q 0, counts cs (empty l) (proper_empty l a) q)

-- reading T gives all sixteen: a slice of sixteen is written whole
pub taken_whole : (out : List ℕ) (s : State) → Proper s → length out ≡ posters → step (C.taken out) s ≡ (write (count posters) s.taken, s)
unfolding step checks act
taken_whole out s w e =
    let long : length s.taken ≡ length out = w.posters ∙ sym e in
    rw (← long, take-length s.taken, long, drop-length out, append-nil s.taken, e) refl
