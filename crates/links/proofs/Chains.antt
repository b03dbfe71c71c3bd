-- Laws of the links of a map: a member joins or leaves, a round is added or struck, and they are chained again. Assumes nothing.
use Prim.Native.Nat.{ℕ, zero, suc, ◌+◌, ◌-◌, ◌≤◌, ◌<◌}
use mathlib.Core.Path.{◌≡◌, refl, sym, ap, ◌∙◌, subst}
use mathlib.Core.Logic.{◌≢◌, ⊎_elim}
use mathlib.Core.Bool.{Bool, true, false, not}
use mathlib.Core.List.{List, [], ◌∷◌, ◌++◌, append-nil}
use native.Mathlib.Omega.{arith}
use borrow.Author.Tests.{eq-eqb, ne_eqb, eqb-true}
use lib.Dec.{eqb}
use lib.ListN.{length, length-append}
use Rattle.links.specs.Route.{pick, bit, tally, without, Route}
use Rattle.links.specs.Places.{put, order, vacancy}
use Rattle.links.specs.Links.{Links, base, record_of, record_in, Chained, joined, added, struck, parted}
use Rattle.links.proofs.Routes.{same_or_not, tally_in, tally_hit, tally_other, tally_append, Once, Split, split_at, keep_append, keep_none, keep_same, tally_keep, length_keep}
use Rattle.links.proofs.Routes.{route_next, route_prev, route_last, route_frame}
use Rattle.links.proofs.Puts.{put_hit, put_miss, put_first, put_neither, cut_route, push_route, last_old}
use Rattle.links.proofs.Lists.{order_once, in_array, vacancy_fits, vacancy_new, pushed_order, pushed_linked, cut_linked, split_cut, cut_order}

-- ---- the round places of one member place

pub in_record : (key : ℕ → ℕ) (k q : ℕ) (vs : List ℕ) → 0 < tally q (record_of key k vs) → key q ≡ k
in_record key k q vs h = go (eqb (key q) k) refl
  where
    go : (b : Bool) → eqb (key q) k ≡ b → key q ≡ k
    go true e = eqb-true (key q) k e
    go false e = absurd (omega (arith, tally_keep (λ y. eqb (key y) k) q vs, ap (λ (b : Bool). pick b (tally q vs) 0) e))

pub record_once : (key : ℕ → ℕ) (k q : ℕ) (vs : List ℕ) → tally q (record_of key k vs) ≤ tally q vs
record_once key k q vs = go (eqb (key q) k) (tally_keep (λ y. eqb (key y) k) q vs)
  where
    go : (b : Bool) → tally q (record_of key k vs) ≡ pick b (tally q vs) 0 → tally q (record_of key k vs) ≤ tally q vs
    go true e = omega arith
    go false e = omega arith

pub record_own : (key : ℕ → ℕ) (k x : ℕ) (xs ys : List ℕ) → key x ≡ k → record_of key k (xs ++ x ∷ ys) ≡ record_of key k xs ++ x ∷ record_of key k ys
record_own key k x xs ys e = rw (keep_append (λ y. eqb (key y) k) xs (x ∷ ys), eq-eqb (key x) k e)

pub record_other : (key : ℕ → ℕ) (k x : ℕ) (xs ys : List ℕ) → key x ≢ k → record_of key k (xs ++ x ∷ ys) ≡ record_of key k (xs ++ ys)
record_other key k x xs ys e = rw (keep_append (λ y. eqb (key y) k) xs (x ∷ ys), keep_append (λ y. eqb (key y) k) xs ys, ne_eqb (key x) k e)

pub record_same : (key key' : ℕ → ℕ) (k : ℕ) (vs : List ℕ) → ((q : ℕ) → 0 < tally q vs → key' q ≡ key q) → record_of key' k vs ≡ record_of key k vs
record_same key key' k vs h = keep_same (λ q. eqb (key' q) k) (λ q. eqb (key q) k) vs (λ q i. ap (λ (y : ℕ). eqb y k) (h q i))

pub in_own : (key : ℕ → ℕ) (x : ℕ) (vs : List ℕ) → 0 < tally x vs → 0 < tally x (record_of key (key x) vs)
in_own key x vs i = omega (arith, i, tally_keep (λ y. eqb (key y) (key x)) x vs, ap (λ (b : Bool). pick b (tally x vs) 0) (eq-eqb (key x) (key x) refl))

none_of : (key : ℕ → ℕ) (k : ℕ) (vs : List ℕ) → ((q : ℕ) → 0 < tally q vs → key q ≢ k) → record_of key k vs ≡ []
none_of key k vs h = keep_none (λ q. eqb (key q) k) vs (λ q i. ne_eqb (key q) k (h q i))

-- ---- a list without a place

pub of_without : (x q : ℕ) (xs : List ℕ) → 0 < tally q (without x xs) → (0 < tally q xs) × (q ≢ x)
of_without x q xs h = go (eqb q x) refl
  where
    go : (b : Bool) → eqb q x ≡ b → (0 < tally q xs) × (q ≢ x)
    go true e = absurd (omega (arith, h, tally_keep (λ y. not (eqb y x)) q xs, ap (λ (b : Bool). pick (not b) (tally q xs) 0) e))
    go false e = (
      omega (arith, h, tally_keep (λ y. not (eqb y x)) q xs, ap (λ (b : Bool). pick (not b) (tally q xs) 0) e),
      λ i. omega (arith, ap bit (sym e ∙ eq-eqb q x i)),
    )

pub in_without : (x q : ℕ) (xs : List ℕ) → 0 < tally q xs → q ≢ x → 0 < tally q (without x xs)
in_without x q xs h e = omega (arith, h, tally_keep (λ y. not (eqb y x)) q xs, ap (λ (b : Bool). pick (not b) (tally q xs) 0) (ne_eqb q x e))

-- ---- whose cell a cell is

module _ (c : Links) (g : Chained c) where
  -- the cells of the chain of k
  abbrev cells : ℕ → List ℕ
  cells k = base c k ∷ record_in c k

  record_in_lem : (k q : ℕ) → 0 < tally q (record_in c k) → q < c.rounds.root
  record_in_lem k q h = in_array c.rounds g.rounds q (omega (arith, record_once c.key k q (order c.rounds)))

  pub cells_once : (k : ℕ) → Once (cells k)
  cells_once k q =
      let o : tally q (record_in c k) ≤ 1 = omega (arith, order_once c.rounds g.rounds q, record_once c.key k q (order c.rounds)) in
      ⊎_elim (λ (e : q ≡ base c k). hit e (tally q (record_in c k)) refl) (λ e. rw (tally_other q (base c k) (record_in c k) e) o) (same_or_not q (base c k))
    where
      hit : q ≡ base c k → (n : ℕ) → tally q (record_in c k) ≡ n → tally q (cells k) ≤ 1
      hit e zero i = rw (tally_hit q (base c k) (record_in c k) e) (omega arith)
      hit e (suc n) i = absurd (omega (arith, record_in_lem k q (omega arith), e))

  pub same_owner : (q k j : ℕ) → 0 < tally q (cells k) → 0 < tally q (cells j) → k ≡ j
  same_owner q k j h i =
      ⊎_elim
      (λ (e : q ≡ base c k).
      ⊎_elim (λ (f : q ≡ base c j). omega (arith, e, f)) (λ f. absurd (omega (arith, e, record_in_lem j q (omega (arith, tally_other q (base c j) (record_in c j) f))))) (same_or_not q (base c j)))
      (λ (e : q ≢ base c k).
      let ik : 0 < tally q (record_in c k) = omega (arith, tally_other q (base c k) (record_in c k) e) in
      ⊎_elim (λ (f : q ≡ base c j). absurd (omega (arith, f, record_in_lem k q ik)))
      (λ (f : q ≢ base c j).
      sym (in_record c.key k q (order c.rounds) ik) ∙ in_record c.key j q (order c.rounds) (omega (arith, tally_other q (base c j) (record_in c j) f)))
      (same_or_not q (base c j)))
      (same_or_not q (base c k))

  -- a round has a member place of the list, and its neighbours in the chain are of the same
  module _ (x : ℕ) (i : 0 < tally x (order c.rounds)) where
    pub own_member : 0 < tally (c.key x) (order c.members)
    own_member = g.keys x i

    x_cell : 0 < tally x (cells (c.key x))
    x_cell = omega (arith, in_own c.key x (order c.rounds) i)

    pub prev_cell : 0 < tally (c.prev x) (cells (c.key x))
    prev_cell = route_prev c.next c.prev (base c (c.key x)) (record_in c (c.key x)) (base c (c.key x)) x (g.chain (c.key x) own_member) x_cell

    pub next_cell : 0 < tally (c.next x) (cells (c.key x))
    next_cell = route_next c.next c.prev (base c (c.key x)) (record_in c (c.key x)) (base c (c.key x)) x (g.chain (c.key x) own_member) x_cell

  -- a cell of k's chain is a place of a round, or k's base
  pub cell_fits : (q k m : ℕ) → 0 < tally q (cells k) → k < m → q < c.rounds.root + m
  cell_fits q k m h i =
      ⊎_elim (λ (e : q ≡ base c k). omega arith) (λ e. omega (arith, record_in_lem k q (omega (arith, tally_other q (base c k) (record_in c k) e)))) (same_or_not q (base c k))

  tail_cell : (k : ℕ) → 0 < tally k (order c.members) → 0 < tally (c.prev (base c k)) (cells k)
  tail_cell k h = route_last c.next c.prev (base c k) (record_in c k) (base c k) (g.chain k h)

  pub tail_fits : (k m : ℕ) → 0 < tally k (order c.members) → k < m → c.prev (base c k) < c.rounds.root + m
  tail_fits k m h i = cell_fits (c.prev (base c k)) k m (tail_cell k h) i

  pub size_in : (k : ℕ) → 0 < tally k (order c.members) → c.size k ≤ length (order c.rounds)
  size_in k h = rw (g.size k h) (length_keep (λ q. eqb (c.key q) k) (order c.rounds))

-- ---- a round is struck

module _ (c : Links) (g : Chained c) (x : ℕ) (i : 0 < tally x (order c.rounds)) (xs ys : List ℕ) (whole : order c.rounds ≡ xs ++ x ∷ ys) where
  abbrev s : Links
  s = struck c x

  abbrev K : ℕ
  K = c.key x

  left : order s.rounds ≡ xs ++ ys
  left = (split_cut c.rounds x g.rounds xs ys whole).1

  own_was : record_in c K ≡ record_of c.key K xs ++ x ∷ record_of c.key K ys
  own_was = ap (record_of c.key K) whole ∙ record_own c.key K x xs ys refl

  own_is : record_in s K ≡ record_of c.key K xs ++ record_of c.key K ys
  own_is = ap (record_of c.key K) left ∙ keep_append (λ y. eqb (c.key y) K) xs ys

  other_is : (k : ℕ) → k ≢ K → record_in s k ≡ record_in c k
  other_is k e = ap (record_of c.key k) left ∙ sym (ap (record_of c.key k) whole ∙ record_other c.key k x xs ys (λ j. e (sym j)))

  chain_own : Route s.next s.prev (base c K) (record_in s K) (base c K)
  chain_own =
      rw own_is
      (cut_route c.next c.prev s.next s.prev (base c K) (record_of c.key K xs) x (record_of c.key K ys)
      (subst (λ (l : List ℕ). Once (base c K ∷ l)) own_was (cells_once c g K))
      (subst (λ (l : List ℕ). Route c.next c.prev (base c K) l (base c K)) own_was (g.chain K (own_member c g x i)))
      (put_hit c.next (c.prev x) (c.next x) (c.prev x) refl) (put_hit c.prev (c.next x) (c.prev x) (c.next x) refl)
      (λ q e f. put_miss c.next (c.prev x) (c.next x) q f) (λ q f. put_miss c.prev (c.next x) (c.prev x) q f))

  chain_other : (k : ℕ) → k ≢ K → 0 < tally k (order c.members) → Route s.next s.prev (base c k) (record_in s k) (base c k)
  chain_other k e h =
      rw (other_is k e)
      (route_frame c.next c.prev s.next s.prev (base c k) (record_in c k) (base c k)
      (λ q j. put_miss c.next (c.prev x) (c.next x) q (λ f. e (same_owner c g q k K j (subst (λ (y : ℕ). 0 < tally y (cells c g K)) (sym f) (prev_cell c g x i)))))
      (λ q j. put_miss c.prev (c.next x) (c.prev x) q (λ f. e (same_owner c g q k K j (subst (λ (y : ℕ). 0 < tally y (cells c g K)) (sym f) (next_cell c g x i)))))
      (g.chain k h))

  was : (q : ℕ) → 0 < tally q (order s.rounds) → 0 < tally q (order c.rounds)
  was q h = omega (arith, ap (tally q) left, ap (tally q) whole, tally_append q xs ys, tally_append q xs (x ∷ ys))

  own_length : length (record_in c K) ≡ suc (length (record_in s K))
  own_length = rw (own_was, own_is, length-append, length-append) (omega arith)

  split_struck : Chained s
  split_struck =
      record {
        rounds = cut_linked c.rounds x g.rounds i;
        members = g.members;
        keys = λ q h. g.keys q (was q h);
        chain = λ k h. ⊎_elim (λ e. subst (λ (j : ℕ). Route s.next s.prev (base c j) (record_in s j) (base c j)) (sym e) chain_own) (λ e. chain_other k e h) (same_or_not k K);
        size =
            λ k h.
            ⊎_elim (λ (e : k ≡ K). put_hit c.size K (c.size K - 1) k e ∙ omega (arith, g.size K (own_member c g x i), own_length, ap (λ (j : ℕ). length (record_in s j)) e))
            (λ e. put_miss c.size K (c.size K - 1) k e ∙ g.size k h ∙ ap length (sym (other_is k e)))
            (same_or_not k K);
      }

module _ (c : Links) (g : Chained c) (x : ℕ) (i : 0 < tally x (order c.rounds)) where
  pub struck_chained : Chained (struck c x)
  struck_chained = let p : Split x (order c.rounds) = split_at x (order c.rounds) i in split_struck c g x i p.front p.back p.whole

  pub struck_order : order (struck c x).rounds ≡ without x (order c.rounds)
  struck_order = cut_order c.rounds x g.rounds i

  pub size_some : 0 < c.size (c.key x)
  size_some = rw (g.size (c.key x) (own_member c g x i)) (tally_in x (record_in c (c.key x)) (in_own c.key x (order c.rounds) i))

-- ---- a round is added

module _ (c : Links) (g : Chained c) (k : ℕ) (h : 0 < tally k (order c.members)) (room : c.rounds.len < c.rounds.root) where
  abbrev x : ℕ
  x = vacancy c.rounds

  abbrev a : Links
  a = added c k

  abbrev vs : List ℕ
  vs = order c.rounds

  pub added_order : order (added c k).rounds ≡ order c.rounds ++ vacancy c.rounds ∷ []
  added_order = pushed_order c.rounds g.rounds room

  fits : x < c.rounds.root
  fits = vacancy_fits c.rounds g.rounds room

  new : tally x vs ≡ 0
  new = omega (arith, vacancy_new c.rounds g.rounds room)

  pub added_off : (q : ℕ) → 0 < tally q (order c.rounds) → q ≢ vacancy c.rounds
  added_off q i e = omega (arith, new, subst (λ (y : ℕ). 0 < tally y vs) e i)

  off_cells : (j q : ℕ) → 0 < tally q (cells c g j) → q ≢ x
  off_cells j q i e =
      ⊎_elim (λ (f : q ≡ base c j). omega (arith, fits, e, f))
      (λ f. added_off q (omega (arith, tally_other q (base c j) (record_in c j) f, record_once c.key j q vs)) e) (same_or_not q (base c j))

  old_key : (q : ℕ) → 0 < tally q vs → a.key q ≡ c.key q
  old_key q i = put_miss c.key x k q (added_off q i)

  x_key : a.key x ≡ k
  x_key = put_hit c.key x k x refl

  own_more : record_in a k ≡ record_in c k ++ x ∷ []
  own_more = ap (record_of a.key k) added_order ∙ record_own a.key k x vs [] x_key ∙ ap (λ (l : List ℕ). l ++ x ∷ []) (record_same c.key a.key k vs old_key)

  other_more : (j : ℕ) → j ≢ k → record_in a j ≡ record_in c j
  other_more j e =
      ap (record_of a.key j) added_order ∙ record_other a.key j x vs [] (λ i. e (sym i ∙ x_key))
      ∙ ap (record_of a.key j) (append-nil vs) ∙ record_same c.key a.key j vs old_key

  longer : Route a.next a.prev (base c k) (record_in a k) (base c k)
  longer =
      let new_cell : tally x (cells c g k) ≡ 0 = tally_other x (base c k) (record_in c k) (λ e. omega (arith, fits, e)) ∙ omega (arith, new, record_once c.key k x vs) in
      let t : ℕ = c.prev (base c k) in
      rw own_more
      (push_route c.next c.prev a.next a.prev (base c k) (record_in c k) x (cells_once c g k) new_cell (g.chain k h)
      (put_first c.next t x x (base c k) (last_old c.next c.prev a.next a.prev (base c k) (record_in c k) x (cells_once c g k) new_cell (g.chain k h)))
      (put_hit (put c.next t x) x (base c k) x refl) (put_hit (put c.prev x t) (base c k) x (base c k) refl)
      (put_first c.prev x t (base c k) x (λ e. omega (arith, fits, e)))
      (λ q e f. put_neither c.next t x x (base c k) q e f) (λ q e f. put_neither c.prev x t (base c k) x q e f))

  as_long : (j : ℕ) → j ≢ k → 0 < tally j (order c.members) → Route a.next a.prev (base c j) (record_in a j) (base c j)
  as_long j e i =
      let t : ℕ = c.prev (base c k) in
      rw (other_more j e)
      (route_frame c.next c.prev a.next a.prev (base c j) (record_in c j) (base c j)
      (λ q o. put_neither c.next t x x (base c k) q (λ f. e (same_owner c g q j k o (subst (λ (y : ℕ). 0 < tally y (cells c g k)) (sym f) (tail_cell c g k h)))) (off_cells j q o))
      (λ q o. put_neither c.prev x t (base c k) x q (off_cells j q o) (λ f. e (same_owner c g q j k o (rw (tally_hit q (base c k) (record_in c k) f) (omega arith)))))
      (g.chain j i))

  pub added_chained : Chained (added c k)
  added_chained =
      record {
        rounds = pushed_linked c.rounds g.rounds room;
        members = g.members;
        keys =
            λ q i.
            ⊎_elim (λ (e : q ≡ x). rw (put_hit c.key x k q e) h)
            (λ e. rw (put_miss c.key x k q e) (g.keys q (omega (arith, ap (tally q) added_order, tally_append q vs (x ∷ []), tally_other q x [] e))))
            (same_or_not q x);
        chain = λ j i. ⊎_elim (λ e. subst (λ (y : ℕ). Route a.next a.prev (base c y) (record_in a y) (base c y)) (sym e) longer) (λ e. as_long j e i) (same_or_not j k);
        size =
            λ j i.
            ⊎_elim (λ (e : j ≡ k). put_hit c.size k (c.size k + 1) j e ∙ omega (arith, g.size k h, ap length own_more, length-append (record_in c k) (x ∷ []), ap (λ (y : ℕ). length (record_in a y)) e))
            (λ e. put_miss c.size k (c.size k + 1) j e ∙ g.size j i ∙ ap length (sym (other_more j e)))
            (same_or_not j k);
      }

  -- every member that had a round, and k, has one
  pub added_some : ((j : ℕ) → 0 < tally j (order c.members) → j ≢ k → 0 < length (record_in c j)) → (j : ℕ) → 0 < tally j (order c.members) → 0 < length (record_in (added c k) j)
  added_some o j i =
      ⊎_elim (λ (e : j ≡ k). omega (arith, ap length own_more, length-append (record_in c k) (x ∷ []), ap (λ (y : ℕ). length (record_in a y)) e))
      (λ e. rw (other_more j e) (o j i e)) (same_or_not j k)

-- ---- a member joins

module _ (c : Links) (g : Chained c) (room : c.members.len < c.members.root) where
  abbrev k : ℕ
  k = vacancy c.members

  abbrev b : Links
  b = joined c

  abbrev ks : List ℕ
  ks = order c.members

  pub joined_order : order (joined c).members ≡ order c.members ++ vacancy c.members ∷ []
  joined_order = pushed_order c.members g.members room

  pub joined_off : (j : ℕ) → 0 < tally j (order c.members) → j ≢ vacancy c.members
  joined_off j i e = omega (arith, vacancy_new c.members g.members room, subst (λ (y : ℕ). 0 < tally y ks) e i)

  pub joined_in : (j : ℕ) → 0 < tally j (order c.members) → 0 < tally j (order (joined c).members)
  joined_in j i = omega (arith, ap (tally j) joined_order, tally_append j ks (k ∷ []))

  joined_old : (j : ℕ) → j ≢ k → 0 < tally j (order b.members) → 0 < tally j ks
  joined_old j e i = omega (arith, ap (tally j) joined_order, tally_append j ks (k ∷ []), tally_other j k [] e)

  pub none_yet : record_in c (vacancy c.members) ≡ []
  none_yet = none_of c.key k (order c.rounds) (λ q i. joined_off (c.key q) (g.keys q i))

  off_base : (j q : ℕ) → j ≢ k → 0 < tally q (cells c g j) → q ≢ base c k
  off_base j q e i f = e (same_owner c g q j k i (rw (tally_hit q (base c k) (record_in c k) f) (omega arith)))

  pub joined_chained : Chained (joined c)
  joined_chained =
      record {
        rounds = g.rounds;
        members = pushed_linked c.members g.members room;
        keys = λ q i. joined_in (c.key q) (g.keys q i);
        chain =
            λ j i.
            ⊎_elim
            (λ (e : j ≡ k).
            let own : Route b.next b.prev (base c k) (record_in c k) (base c k) =
            rw none_yet (put_hit c.next (base c k) (base c k) (base c k) refl, put_hit c.prev (base c k) (base c k) (base c k) refl) in
            subst (λ (y : ℕ). Route b.next b.prev (base c y) (record_in c y) (base c y)) (sym e) own)
            (λ (e : j ≢ k).
            route_frame c.next c.prev b.next b.prev (base c j) (record_in c j) (base c j)
            (λ q o. put_miss c.next (base c k) (base c k) q (off_base j q e o)) (λ q o. put_miss c.prev (base c k) (base c k) q (off_base j q e o))
            (g.chain j (joined_old j e i)))
            (same_or_not j k);
        size =
            λ j i.
            ⊎_elim (λ (e : j ≡ k). put_hit c.size k 0 j e ∙ sym (ap (λ (y : ℕ). length (record_in c y)) e ∙ ap length none_yet))
            (λ e. put_miss c.size k 0 j e ∙ g.size j (joined_old j e i))
            (same_or_not j k);
      }

-- ---- a member leaves

module _ (c : Links) (g : Chained c) (k : ℕ) (h : 0 < tally k (order c.members)) (none : record_in c k ≡ []) where
  pub parted_order : order (parted c k).members ≡ without k (order c.members)
  parted_order = cut_order c.members k g.members h

  pub parted_old : (j : ℕ) → 0 < tally j (order (parted c k).members) → (0 < tally j (order c.members)) × (j ≢ k)
  parted_old j i = of_without k j (order c.members) (subst (λ (l : List ℕ). 0 < tally j l) parted_order i)

  not_of : (q : ℕ) → 0 < tally q (order c.rounds) → c.key q ≢ k
  not_of q i e = omega (arith, subst (λ (y : ℕ). 0 < tally q (record_in c y)) e (in_own c.key q (order c.rounds) i), ap (tally q) none)

  pub parted_chained : Chained (parted c k)
  parted_chained =
      record {
        rounds = g.rounds;
        members = cut_linked c.members k g.members h;
        keys = λ q i. rw parted_order (in_without k (c.key q) (order c.members) (g.keys q i) (not_of q i));
        chain = λ j i. g.chain j (parted_old j i).0;
        size = λ j i. g.size j (parted_old j i).0;
      }
