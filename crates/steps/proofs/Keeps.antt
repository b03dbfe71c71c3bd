-- Each thing that a step does to the state keeps it proper.
use mathlib.Core.Path.{◌≡◌, refl, ap, sym, ◌∙◌}
use mathlib.Core.Bool.{Bool, true, false, cond, not, ◌||◌}
use mathlib.Core.List.{List, [], ◌∷◌, ◌++◌}
use Prim.Native.Nat.{ℕ, ◌+◌, ◌≤◌}
use native.Mathlib.Omega.{arith}
use lib.Dec.{eqb}
use lib.ListN.{length, length-append}
use borrow.Author.Tests.{eqb-true, eqb-false, eq-eqb, ne_eqb}
use Rattle.steps.specs.Lists.{filter, any}
use Rattle.steps.specs.State.{State, Pair, of, has, others, leave, present}
use Rattle.steps.specs.Accounting.{times}
use Rattle.steps.specs.Proper.{Proper}
use Rattle.steps.proofs.Filter.{nonempty, any_filter, filter_append, filter_in, filter_out, any_one, any_none, any_append}

pub eqb_refl : (k : ℕ) → eqb k k ≡ true
eqb_refl k = eq-eqb k k refl

-- K has k once or not at all, as P has: so K and P agree on whether k is there
here : (b : Bool) (k : ℕ) (ks : List ℕ) → times (eqb k) ks ≡ cond b 1 0 → any (eqb k) ks ≡ b
here b k ks e = go b (any (eqb k) ks) refl e
  where
    go : (b c : Bool) → any (eqb k) ks ≡ c → times (eqb k) ks ≡ cond b 1 0 → any (eqb k) ks ≡ b
    go true true p e = p
    go false false p e = p
    go true false p e = absurd (let z = any_none (eqb k) ks p in omega arith)
    go false true p e = absurd (let z = any_one (eqb k) ks p in omega arith)

pub present_has : (s : State) → Proper s → (k : ℕ) → present k s ≡ has k s.pairs
present_has s p k = here (has k s.pairs) k s.members (p.once k)

-- j passes no test for another number
other : (j k : ℕ) → eqb j k ≡ false → (i : ℕ) → eqb j i ≡ true → eqb k i ≡ false
other j k h i e = ne_eqb k i (λ p. absurd (eqb-false j k h (eqb-true j i e ∙ sym p)))

not_other : (j k : ℕ) → eqb j k ≡ false → (i : ℕ) → eqb j i ≡ true → not (eqb k i) ≡ true
not_other j k h i e = ap not (other j k h i e)

same : (k i : ℕ) → eqb k i ≡ true → not (eqb k i) ≡ false
same k i e = ap not e

-- striking k's pairs makes no difference to j
pub has_others : (j k : ℕ) → eqb j k ≡ false → (ps : List Pair) → has j (others k ps) ≡ has j ps
has_others j k h ps =
    any_filter (of j) (others k ps)
    ∙ ap nonempty (filter_in (of j) (λ p. not (of k p)) (λ p e. not_other j k h p.key e) ps)
    ∙ sym (any_filter (of j) ps)

pub has_others_none : (k : ℕ) (ps : List Pair) → has k (others k ps) ≡ false
has_others_none k ps =
    any_filter (of k) (others k ps)
    ∙ ap nonempty (filter_out (of k) (λ p. not (of k p)) (λ p e. same k p.key e) ps)

times_leave : (j k : ℕ) → eqb j k ≡ false → (ks : List ℕ) → times (eqb j) (leave k ks) ≡ times (eqb j) ks
times_leave j k h ks = ap length (filter_in (eqb j) (λ i. not (eqb k i)) (λ i e. not_other j k h i e) ks)

times_left : (k : ℕ) (ks : List ℕ) → times (eqb k) (leave k ks) ≡ 0
times_left k ks = ap length (filter_out (eqb k) (λ i. not (eqb k i)) (λ i e. same k i e) ks)

pub or_false : (b : Bool) → (b || false) ≡ b
or_false true = refl
or_false false = refl

or_true : (b : Bool) → (b || true) ≡ true
or_true true = refl
or_true false = refl

-- K holds each member of P exactly once, and no other
abbrev pub Once : List ℕ → List Pair → Type 0
Once ks ps = (k : ℕ) → times (eqb k) ks ≡ cond (has k ps) 1 0

at_most_one : (b : Bool) → cond b 1 0 ≤ 1
at_most_one true = omega arith
at_most_one false = omega arith

has_snoc : (j k v : ℕ) (ps : List Pair) → has j (ps ++ (record { key = k; value = v } ∷ [])) ≡ (has j ps || eqb j k)
has_snoc j k v ps = any_append (of j) ps (record { key = k; value = v } ∷ []) ∙ ap (λ (b : Bool). has j ps || b) (or_false (eqb j k))

times_snoc : (j k : ℕ) (ks : List ℕ) → times (eqb j) (ks ++ (k ∷ [])) ≡ times (eqb j) ks + cond (eqb j k) 1 0
times_snoc j k ks = ap length (filter_append (eqb j) ks (k ∷ [])) ∙ length-append (filter (eqb j) ks) (filter (eqb j) (k ∷ [])) ∙ ap (λ (n : ℕ). times (eqb j) ks + n) (go (eqb j k))
  where
    go : (b : Bool) → length (cond b (k ∷ []) []) ≡ cond b 1 0
    go true = refl
    go false = refl

module _ (k v : ℕ) (ks : List ℕ) (ps qs : List Pair) (o : Once ks ps) (same_others : (j : ℕ) → eqb j k ≡ false → has j qs ≡ has j ps) where
  pub once_add : Once (cond (any (eqb k) ks) ks (ks ++ (k ∷ []))) (qs ++ (record { key = k; value = v } ∷ []))
  once_add j = go (eqb j k) refl (any (eqb k) ks) refl
    where
      at_k : (c : Bool) → any (eqb k) ks ≡ c → times (eqb k) (cond c ks (ks ++ (k ∷ []))) ≡ 1
      at_k true a = omega (arith, any_one (eqb k) ks a, o k, at_most_one (has k ps))
      at_k false a = rw (times_snoc, eqb_refl k) (omega (arith, any_none (eqb k) ks a))

      at_other : (c : Bool) → eqb j k ≡ false → times (eqb j) (cond c ks (ks ++ (k ∷ []))) ≡ times (eqb j) ks
      at_other true e = refl
      at_other false e = rw (times_snoc, e) (omega arith)

      go : (b : Bool) → eqb j k ≡ b → (c : Bool) → any (eqb k) ks ≡ c → times (eqb j) (cond c ks (ks ++ (k ∷ []))) ≡ cond (has j (qs ++ (record { key = k; value = v } ∷ []))) 1 0
      go true e c a = rw (eqb-true j k e, has_snoc, eqb_refl k, or_true) (at_k c a)
      go false e c a = rw (at_other c e, has_snoc, e, or_false, same_others j e) (o j)

pub once_remove_member : (k : ℕ) (ks : List ℕ) (ps : List Pair) → Once ks ps → Once (leave k ks) (others k ps)
once_remove_member k ks ps o j = go (eqb j k) refl
  where
    go : (b : Bool) → eqb j k ≡ b → times (eqb j) (leave k ks) ≡ cond (has j (others k ps)) 1 0
    go true e = rw (eqb-true j k e, times_left, has_others_none) refl
    go false e = rw (times_leave j k e, has_others j k e) (o j)

module _ (k : ℕ) (ks : List ℕ) (ps rest : List Pair) (o : Once ks ps) (there : has k ps ≡ true) (same_others : (j : ℕ) → eqb j k ≡ false → has j rest ≡ has j ps) where
  pub once_off : Once (cond (has k rest) ks (leave k ks)) rest
  once_off j = go (eqb j k) refl (has k rest) refl
    where
      go : (b : Bool) → eqb j k ≡ b → (c : Bool) → has k rest ≡ c → times (eqb j) (cond c ks (leave k ks)) ≡ cond (has j rest) 1 0
      go true e true g = rw (eqb-true j k e, g, o k, there) refl
      go true e false g = rw (eqb-true j k e, g, times_left) refl
      go false e true g = rw (same_others j e) (o j)
      go false e false g = rw (same_others j e, times_leave j k e) (o j)

pub once_keep : (ks : List ℕ) (ps qs : List Pair) → Once ks ps → ((j : ℕ) → has j qs ≡ true → has j ps ≡ true) → Once (filter (λ j. has j qs) ks) qs
once_keep ks ps qs o less j = go (has j qs) refl
  where
    go : (b : Bool) → has j qs ≡ b → times (eqb j) (filter (λ j. has j qs) ks) ≡ cond b 1 0
    go true e = ap length (filter_in (eqb j) (λ i. has i qs) (λ i h. rw (← eqb-true j i h) e) ks) ∙ o j ∙ ap (λ (b : Bool). cond b 1 0) (less j e)
    go false e = ap length (filter_out (eqb j) (λ i. has i qs) (λ i h. rw (← eqb-true j i h) e) ks)
