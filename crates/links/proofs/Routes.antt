-- Laws of lists of places and of doubly linked routes. Assumes nothing.
use Prim.Native.Nat.{ℕ, zero, suc, ◌+◌, ◌≤◌, ◌<◌}
use mathlib.Core.Path.{◌≡◌, refl, sym, ap, ◌∙◌}
use mathlib.Core.Logic.{◌⊎◌, inl, inr, ◌≢◌, ⊎_elim}
use mathlib.Core.Bool.{Bool, true, false, not}
use mathlib.Core.List.{List, [], ◌∷◌, ◌++◌, reverse, reverse-cons}
use native.Mathlib.Omega.{arith}
use native.Mathlib.Decide.{ℕ_discrete}
use borrow.Author.Tests.{eq-eqb, ne_eqb}
use lib.Dec.{eqb}
use lib.ListN.{length, get_or}
use Rattle.links.specs.Route.{pick, bit, tally, keep, without, walk, follow, Route}

-- ---- equal or not, and counts

pub same_or_not : (a b : ℕ) → (a ≡ b) ⊎ (a ≢ b)
same_or_not a b = elim (ℕ_discrete a b) [ yes e ↦ inl e | no h ↦ inr h ]

pub tally_hit : (q x : ℕ) (xs : List ℕ) → q ≡ x → tally q (x ∷ xs) ≡ suc (tally q xs)
tally_hit q x xs e = rw (eq-eqb q x e) (omega arith)

pub tally_same : (q : ℕ) (xs : List ℕ) → tally q (q ∷ xs) ≡ suc (tally q xs)
tally_same q xs = tally_hit q q xs refl

pub tally_other : (q x : ℕ) (xs : List ℕ) → q ≢ x → tally q (x ∷ xs) ≡ tally q xs
tally_other q x xs h = rw (ne_eqb q x h) (omega arith)

pub tally_append : (q : ℕ) (xs ys : List ℕ) → tally q (xs ++ ys) ≡ tally q xs + tally q ys
tally_append q [] ys = omega arith
tally_append q (x ∷ xs) ys = omega (arith, tally_append q xs ys)

-- ---- splitting a route, and joining two

module _ (n p : ℕ → ℕ) where
  pub route_split : (a : ℕ) (xs : List ℕ) (x : ℕ) (ys : List ℕ) (z : ℕ) → Route n p a (xs ++ x ∷ ys) z → Route n p a xs x × Route n p x ys z
  route_split a [] x ys z h = ((h.0, h.1), h.2)
  route_split a (w ∷ ws) x ys z h =
      let r = route_split w ws x ys z h.2 in ((h.0, h.1, r.0), r.1)

  pub route_join : (a : ℕ) (xs : List ℕ) (x : ℕ) (ys : List ℕ) (z : ℕ) → Route n p a xs x → Route n p x ys z → Route n p a (xs ++ x ∷ ys) z
  route_join a [] x ys z h k = (h.0, h.1, k)
  route_join a (w ∷ ws) x ys z h k = (h.0, h.1, route_join w ws x ys z h.2 k)

  -- what comes after a place of the route, and before one, is in it too
  pub route_next : (a : ℕ) (xs : List ℕ) (z q : ℕ) → Route n p a xs z → 0 < tally q (a ∷ xs) → 0 < tally (n q) (z ∷ xs)
  route_next a [] z q h i =
      ⊎_elim (λ (e : q ≡ a). rw (e, h.0, tally_same z []) (omega arith)) (λ (e : q ≢ a). absurd (omega (arith, tally_other q a [] e))) (same_or_not q a)
  route_next a (x ∷ xs) z q h i =
      let below : 0 < tally q (x ∷ xs) → 0 < tally (n q) (z ∷ xs) = route_next x xs z q h.2 in
      ⊎_elim (λ (e : q ≡ a). rw (e, h.0) (omega (arith, tally_same x xs)))
      (λ (e : q ≢ a). omega (arith, below (omega (arith, tally_other q a (x ∷ xs) e)))) (same_or_not q a)

  pub route_prev : (a : ℕ) (xs : List ℕ) (z q : ℕ) → Route n p a xs z → 0 < tally q (z ∷ xs) → 0 < tally (p q) (a ∷ xs)
  route_prev a [] z q h i =
      ⊎_elim (λ (e : q ≡ z). rw (e, h.1, tally_same a []) (omega arith)) (λ (e : q ≢ z). absurd (omega (arith, tally_other q z [] e))) (same_or_not q z)
  route_prev a (x ∷ xs) z q h i =
      let below : 0 < tally q (z ∷ xs) → 0 < tally (p q) (x ∷ xs) = route_prev x xs z q h.2 in
      ⊎_elim (λ (e : q ≡ x). omega (arith, tally_hit (p q) a (x ∷ xs) (ap p e ∙ h.1)))
      (λ (e : q ≢ x). omega (arith, below (omega (arith, tally_other q x xs e)))) (same_or_not q x)

  -- the first place, and the last
  pub route_first : (a : ℕ) (xs : List ℕ) (z : ℕ) → Route n p a xs z → 0 < tally (n a) (z ∷ xs)
  route_first a xs z h = route_next a xs z a h (rw tally_same (omega arith))

  pub route_last : (a : ℕ) (xs : List ℕ) (z : ℕ) → Route n p a xs z → 0 < tally (p z) (a ∷ xs)
  route_last a xs z h = route_prev a xs z z h (rw tally_same (omega arith))

  -- the walk by n meets the places of the route
  pub route_walk : (a : ℕ) (xs : List ℕ) (z : ℕ) → Route n p a xs z → walk n (n a) (length xs) ≡ xs
  route_walk a [] z h = refl
  route_walk a (x ∷ xs) z h = rw h.0 (ap (λ (l : List ℕ). x ∷ l) (route_walk x xs z h.2))

  -- the i-th place is reached from the one before it
  pub route_start : (a : ℕ) (xs : List ℕ) (z : ℕ) → Route n p a xs z → n a ≡ get_or xs 0 z
  route_start a [] z h = h.0
  route_start a (x ∷ xs) z h = h.0

  pub route_step : (a : ℕ) (xs : List ℕ) (z i : ℕ) → Route n p a xs z → i < length xs → n (get_or xs i z) ≡ get_or xs (suc i) z
  route_step a [] z i h k = absurd (omega arith)
  route_step a (x ∷ xs) z zero h k = route_start x xs z h.2
  route_step a (x ∷ xs) z (suc i) h k = route_step x xs z i h.2 (omega arith)

  -- by n until z is met
  pub route_follow : (a : ℕ) (xs : List ℕ) (z k : ℕ) → Route n p a xs z → tally z xs ≡ 0 → length xs ≤ k → follow n z (n a) k ≡ xs
  route_follow a [] z zero h c i = refl
  route_follow a [] z (suc k) h c i = rw (h.0, eq-eqb z z refl)
  route_follow a (x ∷ xs) z zero h c i = absurd (omega arith)
  route_follow a (x ∷ xs) z (suc k) h c i =
      rw (h.0, ne_eqb x z (λ e. omega (arith, c, tally_hit z x xs (sym e))))
      (ap (λ (l : List ℕ). x ∷ l) (route_follow x xs z k h.2 (omega (arith, c)) (omega arith)))

  -- the last place of a route that has one
  pub route_end : (a : ℕ) (xs : List ℕ) (z : ℕ) → Route n p a xs z → 0 < length xs → (ys : List ℕ) × (xs ≡ ys ++ p z ∷ [])
  route_end a [] z h i = absurd (omega arith)
  route_end a (x ∷ []) z h i = ([], rw h.2.1)
  route_end a (x ∷ y ∷ ys) z h i =
      let r : (us : List ℕ) × (y ∷ ys ≡ us ++ p z ∷ []) = route_end x (y ∷ ys) z h.2 (omega arith) in
      (x ∷ r.0, ap (λ (l : List ℕ). x ∷ l) r.1)

-- a route, from its other end
pub route_reverse : (n p : ℕ → ℕ) (a : ℕ) (xs : List ℕ) (z : ℕ) → Route n p a xs z → Route p n z (reverse xs) a
route_reverse n p a [] z h = (h.1, h.0)
route_reverse n p a (x ∷ xs) z h = rw (reverse-cons x xs) (route_join p n z (reverse xs) x [] a (route_reverse n p x xs z h.2) (h.1, h.0))

-- ---- other links that agree

pub walk_frame : (n m : ℕ → ℕ) (s k : ℕ) → ((q : ℕ) → 0 < tally q (walk n s k) → m q ≡ n q) → walk m s k ≡ walk n s k
walk_frame n m s zero h = refl
walk_frame n m s (suc k) h =
    rw (h s (rw tally_same (omega arith)))
    (ap (λ (l : List ℕ). s ∷ l) (walk_frame n m (n s) k (λ q i. h q (omega arith))))

-- the places of the list xs, each at most once
abbrev pub Once : List ℕ → Type 0
Once xs = (q : ℕ) → tally q xs ≤ 1

-- two places of one list that holds each once
pub apart : (q x : ℕ) (xs : List ℕ) → Once (x ∷ xs) → 0 < tally q xs → x ≢ q
apart q x xs d h e = omega (arith, d q, tally_hit q x xs (sym e))

module _ (n p m r : ℕ → ℕ) where
  pub route_frame : (a : ℕ) (xs : List ℕ) (z : ℕ) → ((q : ℕ) → 0 < tally q (a ∷ xs) → m q ≡ n q)
      → ((q : ℕ) → 0 < tally q (z ∷ xs) → r q ≡ p q) → Route n p a xs z → Route m r a xs z
  route_frame a [] z hn hp h = (hn a (rw tally_same (omega arith)) ∙ h.0, hp z (rw tally_same (omega arith)) ∙ h.1)
  route_frame a (x ∷ xs) z hn hp h = (
    hn a (rw tally_same (omega arith)) ∙ h.0,
    hp x (omega (arith, tally_same x xs)) ∙ h.1,
    route_frame x xs z (λ q i. hn q (omega arith)) (λ q i. hp q (omega arith)) h.2,
  )

  -- The place x leaves a route: the place before it and the one after it are joined, and every other link is as it was.
  pub route_remove : (a : ℕ) (xs : List ℕ) (x : ℕ) (ys : List ℕ) (z : ℕ) → Once (a ∷ xs ++ x ∷ ys) → Once (z ∷ xs ++ x ∷ ys)
      → m (p x) ≡ n x → r (n x) ≡ p x
      → ((q : ℕ) → 0 < tally q (a ∷ xs ++ ys) → q ≢ p x → m q ≡ n q)
      → ((q : ℕ) → 0 < tally q (z ∷ xs ++ ys) → q ≢ n x → r q ≡ p q)
      → Route n p a xs x → Route n p x ys z → Route m r a (xs ++ ys) z
  route_remove a [] x [] z da dz en ep hn hp h k = (
    ap m (sym h.1) ∙ en ∙ k.0,
    ap r (sym k.0) ∙ ep ∙ h.1,
  )
  route_remove a [] x (y ∷ ys) z da dz en ep hn hp h k = (
    ap m (sym h.1) ∙ en ∙ k.0,
    ap r (sym k.0) ∙ ep ∙ h.1,
    route_frame y ys z (λ q i. hn q (omega arith) (λ e. apart q a (x ∷ y ∷ ys) da (omega arith) (sym (e ∙ h.1))))
        (λ q i. hp q (omega arith) (λ e. omega (arith, dz q, tally_hit q y ys (e ∙ k.0)))) k.2,
  )
  route_remove a (w ∷ ws) x ys z da dz en ep hn hp h k = (
    hn a (rw tally_same (omega arith))
        (apart (p x) a (w ∷ ws ++ x ∷ ys) da (omega (arith, route_last n p w ws x h.2, tally_append (p x) ws (x ∷ ys)))) ∙ h.0,
    hp w (omega (arith, tally_same w (ws ++ ys)))
        (λ e. omega (arith, dz (n x), route_first n p x ys z k, tally_hit (n x) w (ws ++ x ∷ ys) (sym e), tally_append (n x) ws (x ∷ ys))) ∙ h.1,
    route_remove w ws x ys z (λ q. omega (arith, da q)) (λ q. omega (arith, dz q)) en ep
        (λ q i. hn q (omega arith)) (λ q i. hp q (omega arith)) h.2 k,
  )

  -- The place x joins a route at its end.
  pub route_push : (a : ℕ) (xs : List ℕ) (x z : ℕ) → Once (a ∷ xs)
      → m (p z) ≡ x → m x ≡ z → r z ≡ x → r x ≡ p z
      → ((q : ℕ) → 0 < tally q (a ∷ xs) → q ≢ p z → m q ≡ n q)
      → ((q : ℕ) → 0 < tally q xs → r q ≡ p q)
      → Route n p a xs z → Route m r a (xs ++ x ∷ []) z
  route_push a [] x z d e₁ e₂ e₃ e₄ hn hp h = (ap m (sym h.1) ∙ e₁, e₄ ∙ h.1, (e₂, e₃))
  route_push a (w ∷ ws) x z d e₁ e₂ e₃ e₄ hn hp h = (
    hn a (rw tally_same (omega arith)) (apart (p z) a (w ∷ ws) d (route_last n p w ws z h.2)) ∙ h.0,
    hp w (rw tally_same (omega arith)) ∙ h.1,
    route_push w ws x z (λ q. omega (arith, d q)) e₁ e₂ e₃ e₄ (λ q i. hn q (omega arith)) (λ q i. hp q (omega arith)) h.2,
  )

-- ---- the elements that pass a test

pub keep_append : (f : ℕ → Bool) (xs ys : List ℕ) → keep f (xs ++ ys) ≡ keep f xs ++ keep f ys
keep_append f [] ys = refl
keep_append f (x ∷ xs) ys = go (f x) (keep_append f xs ys)
  where
    go : (b : Bool) → keep f (xs ++ ys) ≡ keep f xs ++ keep f ys
        → pick b (x ∷ keep f (xs ++ ys)) (keep f (xs ++ ys)) ≡ pick b (x ∷ keep f xs) (keep f xs) ++ keep f ys
    go true e = ap (λ (l : List ℕ). x ∷ l) e
    go false e = e

pub keep_all : (f : ℕ → Bool) (xs : List ℕ) → ((q : ℕ) → 0 < tally q xs → f q ≡ true) → keep f xs ≡ xs
keep_all f [] h = refl
keep_all f (x ∷ xs) h =
    rw (h x (rw tally_same (omega arith))) (ap (λ (l : List ℕ). x ∷ l) (keep_all f xs (λ q i. h q (omega arith))))

pub keep_none : (f : ℕ → Bool) (xs : List ℕ) → ((q : ℕ) → 0 < tally q xs → f q ≡ false) → keep f xs ≡ []
keep_none f [] h = refl
keep_none f (x ∷ xs) h = rw (h x (rw tally_same (omega arith))) (keep_none f xs (λ q i. h q (omega arith)))

pub keep_same : (f g : ℕ → Bool) (xs : List ℕ) → ((q : ℕ) → 0 < tally q xs → f q ≡ g q) → keep f xs ≡ keep g xs
keep_same f g [] h = refl
keep_same f g (x ∷ xs) h =
    rw (h x (rw tally_same (omega arith)), keep_same f g xs (λ q i. h q (omega arith)))

-- two tests, in either order
pub keep_swap : (f g : ℕ → Bool) (xs : List ℕ) → keep f (keep g xs) ≡ keep g (keep f xs)
keep_swap f g [] = refl
keep_swap f g (x ∷ xs) = go (f x) (g x) refl refl (keep_swap f g xs)
  where
    go : (a b : Bool) → f x ≡ a → g x ≡ b → keep f (keep g xs) ≡ keep g (keep f xs)
        → keep f (pick b (x ∷ keep g xs) (keep g xs)) ≡ keep g (pick a (x ∷ keep f xs) (keep f xs))
    go true true e i h = rw (e, i) (ap (λ (l : List ℕ). x ∷ l) h)
    go true false e i h = rw i h
    go false true e i h = rw e h
    go false false e i h = h

-- a test that the next one implies
pub keep_inside : (f g : ℕ → Bool) (xs : List ℕ) → ((q : ℕ) → f q ≡ true → g q ≡ true) → keep f (keep g xs) ≡ keep f xs
keep_inside f g [] h = refl
keep_inside f g (x ∷ xs) h = go (f x) (g x) refl refl (keep_inside f g xs h)
  where
    go : (a b : Bool) → f x ≡ a → g x ≡ b → keep f (keep g xs) ≡ keep f xs
        → keep f (pick b (x ∷ keep g xs) (keep g xs)) ≡ pick a (x ∷ keep f xs) (keep f xs)
    go true true e i k = rw e (ap (λ (l : List ℕ). x ∷ l) k)
    go true false e i k = absurd (omega (arith, ap bit (sym i ∙ h x e)))
    go false true e i k = rw e k
    go false false e i k = k

pub length_keep : (f : ℕ → Bool) (xs : List ℕ) → length (keep f xs) ≤ length xs
length_keep f [] = omega arith
length_keep f (x ∷ xs) = go (f x) (length_keep f xs)
  where
    go : (b : Bool) → length (keep f xs) ≤ length xs → length (pick b (x ∷ keep f xs) (keep f xs)) ≤ suc (length xs)
    go true h = omega arith
    go false h = omega arith

pub tally_keep : (f : ℕ → Bool) (q : ℕ) (xs : List ℕ) → tally q (keep f xs) ≡ pick (f q) (tally q xs) 0
tally_keep f q [] = go (f q)
  where
    go : (b : Bool) → ◌≡◌ {A = ℕ} 0 (pick b 0 0)
    go true = refl
    go false = refl
tally_keep f q (x ∷ xs) =
    let ih : tally q (keep f xs) ≡ pick (f q) (tally q xs) 0 = tally_keep f q xs in
    ⊎_elim (λ e. rw (← e) (hit (f q) e ih)) (λ h. miss (f x) h ∙ ih ∙ rw (tally_other q x xs h)) (same_or_not q x)
  where
    hit : (b : Bool) → q ≡ x → tally q (keep f xs) ≡ pick b (tally q xs) 0
        → tally q (pick b (q ∷ keep f xs) (keep f xs)) ≡ pick b (tally q (q ∷ xs)) 0
    hit true e i = omega arith
    hit false e i = i

    miss : (b : Bool) → q ≢ x → tally q (pick b (x ∷ keep f xs) (keep f xs)) ≡ tally q (keep f xs)
    miss true h = tally_other q x (keep f xs) h
    miss false h = refl

-- ---- a place of a list

pub record Split (x : ℕ) (vs : List ℕ) : Type 0 where
  pub front : List ℕ
  pub back : List ℕ
  pub whole : vs ≡ front ++ x ∷ back

pub split_at : (x : ℕ) (vs : List ℕ) → 0 < tally x vs → Split x vs
split_at x [] h = absurd (omega arith)
split_at x (v ∷ vs) h = ⊎_elim (λ (e : x ≡ v). record { front = []; back = vs; whole = ap (λ (y : ℕ). y ∷ vs) (sym e) })
    (λ (e : x ≢ v). let s = split_at x vs (omega (arith, tally_other x v vs e)) in
    record { front = v ∷ s.front; back = s.back; whole = ap (λ (l : List ℕ). v ∷ l) s.whole }) (same_or_not x v)

pub without_split : (x : ℕ) (xs ys : List ℕ) → Once (xs ++ x ∷ ys) → without x (xs ++ x ∷ ys) ≡ xs ++ ys
without_split x xs ys d =
    let f : ℕ → Bool = λ q. not (eqb q x) in
    let off : (q : ℕ) → 0 < tally q xs + tally q ys → f q ≡ true =
    λ q i. ap not (ne_eqb q x (λ e. omega (arith, d q, tally_append q xs (x ∷ ys), tally_hit q x ys e))) in
    rw (keep_append f xs (x ∷ ys), eq-eqb x x refl, keep_all f xs (λ q i. off q (omega arith)), keep_all f ys (λ q i. off q (omega arith)))

pub tally_in : (q : ℕ) (xs : List ℕ) → 0 < tally q xs → 0 < length xs
tally_in q [] h = h
tally_in q (x ∷ xs) h = omega arith
