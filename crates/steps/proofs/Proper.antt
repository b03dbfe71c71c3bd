-- From the empty state on, and whatever the calls: P and K are proper.
use mathlib.Core.Path.{◌≡◌, refl, ap, sym, ◌∙◌}
use mathlib.Core.Bool.{Bool, true, false, cond, not, ◌&&◌, ◌||◌, false≢true}
use mathlib.Core.List.{List, [], ◌∷◌, ◌++◌, head?, tail, drop_last}
use mathlib.Core.Option.{Option, none, some}
use Prim.Native.Nat.{ℕ, suc, ◌+◌, ◌≤◌}
use native.Mathlib.Omega.{arith}
use lib.Dec.{eqb}
use lib.ListN.{length, length-append, length-replicate}
use borrow.Author.Tests.{leb-false}
use Rattle.steps.specs.Lists.{last?}
use Rattle.steps.specs.State as St
use Rattle.steps.specs.State.{State, Limits, Pair, posters, empty, of, has, others, kept, leave, absent, full, crowded, add, replace, remove_member, remove_pair, relist, keep}
use Rattle.steps.specs.Call as C
use Rattle.steps.specs.Call.{Call}
use Rattle.steps.specs.Step.{Check, checks, refusal, pop, act, settle, step, after}
use Rattle.steps.specs.Proper.{Allowed, Proper}
use Rattle.steps.proofs.Filter.{length_split, length_filter, any_one, any_append}
use Rattle.steps.proofs.Posters.{counting_length, counting_within, none_taken}
use Rattle.steps.proofs.Keeps.{present_has, has_others, once_add, once_remove_member, once_off, once_keep, or_false, eqb_refl}

-- the conditions of a call that is not refused: none holds
abbrev pub Pass : List Check → Type 0
Pass [] = Unit {0}
Pass (c ∷ cs) = (c.0 ≡ false) × Pass cs

pub passed : (cs : List Check) → refusal cs ≡ none → Pass cs
passed [] e = tt
passed (c ∷ cs) e = go c.0 refl (λ h. passed cs h) e
  where
    go : (b : Bool) → c.0 ≡ b → (refusal cs ≡ none → Pass cs) → cond b (some c.1) (refusal cs) ≡ none → (c.0 ≡ false) × Pass cs
    go true p ih e = absurd (let z : ◌≡◌ {A = ℕ} 0 1 = cc in omega arith)
    go false p ih e = (p, ih e)

-- a member's place in K costs one, where it is new
joined : (k : ℕ) (s : State) → length s.members ≤ s.limits.members → (absent k s && crowded s) ≡ false → length (cond (St.present k s) s.members (s.members ++ (k ∷ []))) ≤ s.limits.members
joined k s m h = go (St.present k s) h
  where
    go : (b : Bool) → (not b && crowded s) ≡ false → length (cond b s.members (s.members ++ (k ∷ []))) ≤ s.limits.members
    go true h = m
    go false h = rw length-append (omega (arith, leb-false))

proper_add : (by k v : ℕ) (s : State) → Proper s → full s ≡ false → (absent k s && crowded s) ≡ false → Proper (add by k v s)
proper_add by k v s p f c =
    record {
      once = once_add k v s.members s.pairs s.pairs p.once (λ j e. refl);
      rounds = rw length-append (omega (arith, leb-false));
      members = joined k s p.members c;
      posters = counting_length by s.taken ∙ p.posters;
      taken = counting_within by s.taken p.taken;
      allowed = p.allowed;
    }

proper_replace : (by k v : ℕ) (s : State) → Proper s → (absent k s && full s) ≡ false → (absent k s && crowded s) ≡ false → Proper (replace by k v s)
proper_replace by k v s p f c =
    record {
      once = once_add k v s.members s.pairs (others k s.pairs) p.once (λ j e. has_others j k e s.pairs);
      rounds = rw length-append (go (St.present k s) refl f);
      members = joined k s p.members c;
      posters = counting_length by s.taken ∙ p.posters;
      taken = counting_within by s.taken p.taken;
      allowed = p.allowed;
    }
  where
    go : (b : Bool) → St.present k s ≡ b → (not b && full s) ≡ false → length (others k s.pairs) + 1 ≤ s.limits.rounds
    go true e f = omega (arith, p.rounds, length_split (of k) s.pairs, any_one (of k) s.pairs (sym (present_has s p k) ∙ e))
    go false e f = omega (arith, length_split (of k) s.pairs, leb-false)

proper_remove_member : (k : ℕ) (s : State) → Proper s → Proper (remove_member k s)
proper_remove_member k s p =
    record {
      once = once_remove_member k s.members s.pairs p.once;
      rounds = omega (arith, p.rounds, length_filter (λ q. not (of k q)) s.pairs);
      members = omega (arith, p.members, length_filter (λ j. not (eqb k j)) s.members);
      posters = p.posters;
      taken = p.taken;
      allowed = p.allowed;
    }

-- ps is p and rest, in some order
pub record Splits (ps : List Pair) (p : Pair) (rest : List Pair) : Type 0 where
  pub has_all : (j : ℕ) → has j ps ≡ (of j p || has j rest)
  pub lengths : length ps ≡ suc (length rest)

proper_off : (p : Pair) (rest : List Pair) (s : State) → Proper s → Splits s.pairs p rest → Proper (remove_pair p rest s)
proper_off p rest s q h =
    record {
      once =
          once_off p.key s.members s.pairs rest q.once (rw (h.has_all p.key, eqb_refl p.key) refl)
          (λ j e. sym (h.has_all j ∙ ap (λ (b : Bool). b || has j rest) e));
      rounds = omega (arith, q.rounds, h.lengths);
      members = go (has p.key rest);
      posters = q.posters;
      taken = q.taken;
      allowed = q.allowed;
    }
  where
    go : (b : Bool) → length (cond b s.members (leave p.key s.members)) ≤ s.limits.members
    go true = q.members
    go false = omega (arith, q.members, length_filter (λ j. not (eqb p.key j)) s.members)

or_comm : (a b : Bool) → (a || b) ≡ (b || a)
or_comm true true = refl
or_comm true false = refl
or_comm false true = refl
or_comm false false = refl

-- a list that has a last element ends in it
pub last_snoc : (ps : List Pair) (p : Pair) → last? ps ≡ some p → ps ≡ drop_last ps ++ (p ∷ [])
last_snoc [] p e = cc
last_snoc (x ∷ []) p e = cc
last_snoc (x ∷ y ∷ ys) p e = ap (λ (l : List Pair). x ∷ l) (last_snoc (y ∷ ys) p e)

pub front_splits : (p : Pair) (rest : List Pair) → Splits (p ∷ rest) p rest
front_splits p rest = record { has_all = λ j. refl; lengths = refl }

pub back_splits : (ps : List Pair) (p : Pair) → last? ps ≡ some p → Splits ps p (drop_last ps)
back_splits ps p e =
    record {
      has_all = λ j. ap (has j) (last_snoc ps p e) ∙ any_append (of j) (drop_last ps) (p ∷ []) ∙ or_comm (has j (drop_last ps)) (of j p || false) ∙ ap (λ (b : Bool). b || has j (drop_last ps)) (or_false (of j p));
      lengths = ap length (last_snoc ps p e) ∙ length-append (drop_last ps) (p ∷ []) ∙ omega arith;
    }

-- an end of P: nothing, or a pair and the rest
pub data End (ps : List Pair) : Option Pair → List Pair → Type 0 where
  nothing : {rest : List Pair} → End ps none rest
  pair : {p : Pair} {rest : List Pair} → Splits ps p rest → End ps (some p) rest

pub front : (ps : List Pair) → End ps (head? ps) (tail ps)
front [] = nothing
front (p ∷ rest) = pair (front_splits p rest)

pub back : (ps : List Pair) → End ps (last? ps) (drop_last ps)
back ps = go (last? ps) refl
  where
    go : (o : Option Pair) → last? ps ≡ o → End ps o (drop_last ps)
    go none e = nothing
    go (some p) e = pair (back_splits ps p e)

proper_pop : (s : State) (o : Option Pair) (rest : List Pair) → Proper s → End s.pairs o rest → Proper (pop o rest s).1
proper_pop s o rest q nothing = q
proper_pop s o rest q (pair {p} h) = proper_off p rest s q h

kept_has : (j : ℕ) (ms : List ℕ) (ps : List Pair) → has j (kept ms ps) ≡ true → has j ps ≡ true
kept_has j [] ps e = absurd (false≢true e)
kept_has j (m ∷ ms) [] e = e
kept_has j (m ∷ ms) (p ∷ ps) e = go (eqb 1 m) (of j p) refl (λ h. kept_has j ms ps h) e
  where
    go : (b c : Bool) → of j p ≡ c → (has j (kept ms ps) ≡ true → has j ps ≡ true) → has j (cond b (p ∷ kept ms ps) (kept ms ps)) ≡ true → (c || has j ps) ≡ true
    go true true q ih e = refl
    go false true q ih e = refl
    go true false q ih e = ih (sym (ap (λ (b : Bool). b || has j (kept ms ps)) q) ∙ e)
    go false false q ih e = ih e

length_kept : (ms : List ℕ) (ps : List Pair) → length (kept ms ps) ≤ length ps
length_kept [] ps = omega arith
length_kept (m ∷ ms) [] = omega arith
length_kept (m ∷ ms) (p ∷ ps) = go (eqb 1 m) (length_kept ms ps)
  where
    go : (b : Bool) → length (kept ms ps) ≤ length ps → length (cond b (p ∷ kept ms ps) (kept ms ps)) ≤ suc (length ps)
    go true ih = omega arith
    go false ih = omega arith

proper_keep : (ms : List ℕ) (s : State) → Proper s → Proper (keep (kept ms s.pairs) s)
proper_keep ms s p =
    record {
      once = once_keep s.members s.pairs (kept ms s.pairs) p.once (λ j e. kept_has j ms s.pairs e);
      rounds = omega (arith, p.rounds, length_kept ms s.pairs);
      members = omega (arith, p.members, length_filter (λ k. has k (kept ms s.pairs)) s.members);
      posters = p.posters;
      taken = p.taken;
      allowed = p.allowed;
    }

pub proper_empty : (l : Limits) → Allowed l → Proper (empty l)
proper_empty l a = record { once = λ k. refl; rounds = omega arith; members = omega arith; posters = length-replicate {A = ℕ} posters 0; taken = none_taken posters; allowed = a }

proper_clear : (s : State) → Proper s → Proper (relist [] [] s)
proper_clear s p = record { once = λ k. refl; rounds = omega arith; members = omega arith; posters = p.posters; taken = p.taken; allowed = p.allowed }

-- an absent member's condition is the condition; a present one's is none
new : (k : ℕ) (s : State) (b : Bool) → St.present k s ≡ false → (absent k s && b) ≡ false → b ≡ false
new k s b e h = rw e at h

known : (k : ℕ) (s : State) (b : Bool) → absent k s ≡ false → (absent k s && b) ≡ false
known k s b e = rw e refl

pub act_proper : (c : Call) (s : State) → Proper s → Pass (checks c s) → Proper (act c s).1
unfolding checks act
act_proper (C.append by k v) s p h = proper_add by k v s p h.1.0 h.1.1.0
act_proper (C.insert by k v) s p h = proper_replace by k v s p h.1.0 h.1.1.0
act_proper (C.insert_all by k v out) s p h = proper_replace by k v s p h.1.0 h.1.1.0
act_proper (C.remove k) s p h = proper_remove_member k s p
act_proper (C.remove_all k out) s p h = proper_remove_member k s p
act_proper (C.entry k) s p h = p
act_proper (C.occupied_append by k v) s p h = proper_add by k v s p h.1.1.0 h.1.1.1.0
act_proper (C.occupied_insert by k v) s p h =
    proper_replace by k v s p (known k s (full s) h.1.0) (known k s (crowded s) h.1.0)
act_proper (C.occupied_remove_entry k) s p h = proper_remove_member k s p
act_proper (C.vacant_insert by k v) s p h = proper_add by k v s p (new k s (full s) h.1.0 h.1.1.0) h.1.1.1.0
act_proper C.pop_front s p h = proper_pop s (head? s.pairs) (tail s.pairs) p (front s.pairs)
act_proper C.pop_back s p h = proper_pop s (last? s.pairs) (drop_last s.pairs) p (back s.pairs)
act_proper (C.retain ms) s p h = proper_keep ms s p
act_proper (C.pack_to m n) s p h = p
act_proper C.clear s p h = proper_clear s p
act_proper (C.get k) s p h = p
act_proper (C.get_all k out) s p h = p
act_proper (C.entry_len k) s p h = p
act_proper (C.contains_key k) s p h = p
act_proper (C.keys out) s p h = p
act_proper C.keys_len s p h = p
act_proper C.values_len s p h = p
act_proper (C.iter ks vs) s p h = p
act_proper (C.taken out) s p h = p

pub step_proper : (c : Call) (s : State) → Proper s → Proper (step c s).1
unfolding step
step_proper c s p = go (refusal (checks c s)) refl
  where
    go : (o : Option ℕ) → refusal (checks c s) ≡ o → Proper (settle o c s).1
    go none e = act_proper c s p (passed (checks c s) e)
    go (some n) e = p

pub after_proper : (cs : List Call) (s : State) → Proper s → Proper (after cs s)
unfolding after
after_proper [] s p = p
after_proper (c ∷ cs) s p = after_proper cs (step c s).1 (step_proper c s p)
