-- Pairs leave one after the other: in the end those are kept that are left, and the members that have one of them. Assumes nothing.
use Prim.Native.Nat.{ℕ}
use mathlib.Core.Path.{◌≡◌, refl, sym, ap, ◌∙◌, fun_ext}
use mathlib.Core.Bool.{Bool, true, false, cond, not, ◌&&◌, ◌||◌, false≢true}
use mathlib.Core.List.{List, [], ◌∷◌, ◌++◌}
use borrow.Author.Tests.{eqb-true, eqb-false, eq-eqb, ne_eqb}
use lib.Dec.{eqb}
use Rattle.steps.specs.Lists.{filter}
use Rattle.steps.specs.State.{State, Pair, has, of, others, leave, relist, remove_pair, remove_member, kept, keep}
use Rattle.steps.proofs.Filter.{filter_fuse, filter_in, any_append}
use Rattle.steps.proofs.Keeps.{has_others, has_others_none}

-- each member has a pair
abbrev pub Whole : State → Type 0
Whole s = filter (λ j. has j s.pairs) s.members ≡ s.members

-- k leaves where it alone has no pair among ps
leaves : (s : State) (k : ℕ) (ps : List Pair) → Whole s → ((j : ℕ) → eqb j k ≡ false → has j ps ≡ has j s.pairs) → has k ps ≡ false
    → filter (λ j. has j ps) s.members ≡ leave k s.members
leaves s k ps w h e =
    ap (λ (f : ℕ → Bool). filter f s.members) (fun_ext (λ j. go j (eqb j k) refl))
    ∙ filter_fuse (λ j. not (eqb k j)) (λ j. has j s.pairs) s.members ∙ ap (leave k) w
  where
    go : (j : ℕ) (b : Bool) → eqb j k ≡ b → has j ps ≡ (not (eqb k j) && has j s.pairs)
    go j true u = rw (eqb-true j k u, eq-eqb k k refl) e
    go j false u = h j u ∙ sym (ap (λ (b : Bool). not b && has j s.pairs) (ne_eqb k j (λ v. eqb-false j k u (sym v))))

-- the pair p leaves P, and ps are the others: keeping these is what the step does
pub keep_one_less : (s : State) (p : Pair) (ps : List Pair) → Whole s → ((j : ℕ) → has j s.pairs ≡ (of j p || has j ps))
    → remove_pair p ps s ≡ keep ps s
keep_one_less s p ps w h = ap (λ (l : List ℕ). relist ps l s) (sym (go (has p.key ps) refl))
  where
    others_same : (j : ℕ) → eqb j p.key ≡ false → has j ps ≡ has j s.pairs
    others_same j e = sym (h j ∙ ap (λ (b : Bool). b || has j ps) e)

    stays : has p.key ps ≡ true → (j : ℕ) (b : Bool) → eqb j p.key ≡ b → has j ps ≡ has j s.pairs
    stays e j true u = ap (λ (y : ℕ). has y ps) (eqb-true j p.key u) ∙ e ∙ sym (h j ∙ ap (λ (b : Bool). b || has j ps) u)
    stays e j false u = others_same j u

    go : (b : Bool) → has p.key ps ≡ b → filter (λ j. has j ps) s.members ≡ cond b s.members (leave p.key s.members)
    go true e = ap (λ (f : ℕ → Bool). filter f s.members) (fun_ext (λ j. stays e j (eqb j p.key) refl)) ∙ w
    go false e = leaves s p.key ps w others_same e

-- so from the middle
pub keep_middle : (met : List Pair) (p : Pair) (ps : List Pair) (s : State) → Whole s → s.pairs ≡ met ++ (p ∷ ps)
    → remove_pair p (met ++ ps) s ≡ keep (met ++ ps) s
keep_middle met p ps s w e =
    keep_one_less s p (met ++ ps) w
    (λ j.
    ap (has j) e ∙ any_append (of j) met (p ∷ ps) ∙ swap (has j met) (of j p) (has j ps)
    ∙ ap (λ (b : Bool). of j p || b) (sym (any_append (of j) met ps)))
  where
    swap : (a b c : Bool) → (a || (b || c)) ≡ (b || (a || c))
    swap true true c = refl
    swap true false c = refl
    swap false b c = refl

-- keeping all changes nothing
pub keep_all : (s : State) → Whole s → keep s.pairs s ≡ s
keep_all s w = ap (λ (l : List ℕ). relist s.pairs l s) w

-- keeping some, and of these some: keeping those
pub keep_keep : (ps qs : List Pair) (s : State) → ((j : ℕ) → has j qs ≡ true → has j ps ≡ true) → keep qs (keep ps s) ≡ keep qs s
keep_keep ps qs s h = ap (λ (l : List ℕ). relist qs l s) (filter_in (λ j. has j qs) (λ j. has j ps) h s.members)

-- keeping the pairs of the others is removing the member
pub keep_others : (k : ℕ) (s : State) → Whole s → keep (others k s.pairs) s ≡ remove_member k s
keep_others k s w =
    ap (λ (l : List ℕ). relist (others k s.pairs) l s)
    (leaves s k (others k s.pairs) w (λ j e. has_others j k e s.pairs) (has_others_none k s.pairs))

-- what is kept by marks was there
pub kept_has : (j : ℕ) (ms : List ℕ) (ps : List Pair) → has j (kept ms ps) ≡ true → has j ps ≡ true
kept_has j [] ps e = absurd (false≢true e)
kept_has j (m ∷ ms) [] e = e
kept_has j (m ∷ ms) (p ∷ ps) e = go (eqb 1 m) (of j p) refl (kept_has j ms ps) e
  where
    go : (b c : Bool) → of j p ≡ c → (has j (kept ms ps) ≡ true → has j ps ≡ true)
        → has j (cond b (p ∷ kept ms ps) (kept ms ps)) ≡ true → (c || has j ps) ≡ true
    go true true q ih e = refl
    go false true q ih e = refl
    go true false q ih e = ih (sym (ap (λ (b : Bool). b || has j (kept ms ps)) q) ∙ e)
    go false false q ih e = ih e
