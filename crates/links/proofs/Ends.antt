-- A list of places from both ends: walks, the first and the last place leave, places leave one after the other, and a freed place is taken
-- again. Walks of a record's chain likewise. Assumes nothing.
use Prim.Native.Nat.{ℕ, ◌-◌, ◌≤◌, ◌<◌}
use mathlib.Core.Path.{◌≡◌, refl, ap, ◌∙◌}
use mathlib.Core.List.{List, [], ◌∷◌, ◌++◌, append-nil, reverse, reverse-cons}
use native.Mathlib.Omega.{arith}
use lib.ListN.{length, length-reverse}
use borrow.Author.Tests.{ne_eqb}
use Rattle.links.specs.Route.{tally, strip, follow}
use Rattle.links.specs.Places.{Places, order, Linked, vacancy, cut, cuts}
use Rattle.links.specs.Links.{Links, base, record_in, Chained}
use Rattle.links.proofs.Routes.{Once, tally_append, tally_same, tally_hit, route_follow, route_reverse, tally_in}
use Rattle.links.proofs.Lists.{length_order, order_once, order_without, cut_linked, cut_order}
use Rattle.links.proofs.Chains.{cells_once, in_without}

tally_reverse : (q : ℕ) (xs : List ℕ) → tally q (reverse xs) ≡ tally q xs
tally_reverse q [] = refl
tally_reverse q (x ∷ xs) = rw (reverse-cons x xs, tally_append q (reverse xs) (x ∷ [])) (omega (arith, tally_reverse q xs))

-- a place that is not at the end of a route does not stand in it
off_end : (z : ℕ) (xs : List ℕ) → Once (z ∷ xs) → tally z xs ≡ 0
off_end z xs h = omega (arith, h z, tally_same z xs)

module _ (l : Places) (g : Linked l) where
  -- by next from the first place, until the end
  pub order_from_front : (k : ℕ) → l.len ≤ k → follow l.next l.root (l.next l.root) k ≡ order l
  order_from_front k h =
      route_follow l.next l.prev l.root (order l) l.root k g.route (off_end l.root (order l) (order_once l g)) (omega (arith, length_order l))

  -- by previous from the last place: the same backwards
  pub order_from_back : (k : ℕ) → l.len ≤ k → follow l.prev l.root (l.prev l.root) k ≡ reverse (order l)
  order_from_back k h =
      route_follow l.prev l.next l.root (reverse (order l)) l.root k (route_reverse l.next l.prev l.root (order l) l.root g.route)
      (tally_reverse l.root (order l) ∙ off_end l.root (order l) (order_once l g)) (omega (arith, length_order l, length-reverse (order l)))

  -- the first place leaves
  pub pop_front_order : (x : ℕ) (xs : List ℕ) → order l ≡ x ∷ xs → order (cut l x) ≡ xs
  pop_front_order x xs e =
      cut_order l x g (rw (e, tally_same) (omega arith)) ∙ order_without l g [] x xs e

  -- the last place leaves
  pub pop_back_order : (x : ℕ) (xs : List ℕ) → order l ≡ xs ++ x ∷ [] → order (cut l x) ≡ xs
  pop_back_order x xs e =
      cut_order l x g (rw (e, tally_append x xs (x ∷ [])) (omega (arith, tally_same x [])))
      ∙ order_without l g xs x [] e ∙ append-nil xs

  -- the place that was freed last is the next to be taken
  pub freed_again : (x : ℕ) → 0 < tally x (order l) → vacancy (cut l x) ≡ x
  freed_again x i = rw (ne_eqb (l.len - 1) l.fresh (λ e. omega (arith, g.some_used, length_order l, tally_in x (order l) i)))

-- places leave one after the other: what is left keeps its order
pub cuts_order : (l : Places) (ws : List ℕ) → Linked l → Once ws → ((q : ℕ) → 0 < tally q ws → 0 < tally q (order l))
    → Linked (cuts l ws) × (order (cuts l ws) ≡ strip ws (order l))
cuts_order l [] g o h = (g, refl)
cuts_order l (w ∷ ws) g o h =
    let i : 0 < tally w (order l) = h w (rw tally_same (omega arith)) in
    let e = cut_order l w g i in
    let r =
    cuts_order (cut l w) ws (cut_linked l w g i) (λ q. omega (arith, o q))
    (λ q j. rw e (in_without w q (order l) (h q (omega arith)) (λ (s : q ≡ w). omega (arith, o q, tally_hit q w ws s))))
    in
    (r.0, r.1 ∙ ap (strip ws) e)

module _ (c : Links) (g : Chained c) (k : ℕ) (i : 0 < tally k (order c.members)) where
  -- the rounds of the member place k, from its head by next
  pub record_from_front : (n : ℕ) → length (record_in c k) ≤ n → follow c.next (base c k) (c.next (base c k)) n ≡ record_in c k
  record_from_front n h =
      route_follow c.next c.prev (base c k) (record_in c k) (base c k) n (g.chain k i) (off_end (base c k) (record_in c k) (cells_once c g k)) h

  -- and from its tail by previous
  pub record_from_back : (n : ℕ) → length (record_in c k) ≤ n → follow c.prev (base c k) (c.prev (base c k)) n ≡ reverse (record_in c k)
  record_from_back n h =
      route_follow c.prev c.next (base c k) (reverse (record_in c k)) (base c k) n
      (route_reverse c.next c.prev (base c k) (record_in c k) (base c k) (g.chain k i))
      (tally_reverse (base c k) (record_in c k) ∙ off_end (base c k) (record_in c k) (cells_once c g k)) (omega (arith, length-reverse (record_in c k)))
