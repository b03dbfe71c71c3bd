-- A list of places is linked exactly if its places in use are new, its freed ones are new besides, and it is a route. Assumes nothing.
use Prim.Native.Nat.{ℕ, ◌+◌, ◌-◌, ◌≤◌, ◌<◌}
use mathlib.Core.Path.{◌≡◌, refl, sym, ap, ◌∙◌}
use mathlib.Core.Logic.{⊎_elim}
use mathlib.Core.Bool.{Bool, true, false}
use mathlib.Core.List.{List, ◌++◌}
use native.Mathlib.Omega.{arith}
use lib.ListN.{length, replicate, length-append}
use Rattle.steps.proofs.Posters.{repeated}
use Rattle.index.proofs.Pigeon.{less_or_not}
use Rattle.index.proofs.Agree.{if_true, if_false}
use Rattle.links.specs.Route.{bit, tally, Route}
use Rattle.links.specs.Places.{Places, order, freed, Linked}
use Rattle.links.proofs.Routes.{tally_append}
use Rattle.links.proofs.Lists.{length_walk, length_order, place_below, place_once}
use Rattle.well_linked.specs.Marks.{marks, New, Marks}
use Rattle.well_linked.proofs.Fill.{filled}

-- nothing is marked in an array of `false`
none_marked : (n q : ℕ) → marks (replicate n false) q ≡ 0
none_marked n q = ap bit (repeated Bool n q false)

-- the places in use were marked where none was, with the answer r
module _ (l : Places) (n : ℕ) {met : List Bool} {r : Bool} (m : Marks l.fresh (order l) (replicate n false) met r) where
  pub used_refused : r ≡ false → Linked l → ⊥
  used_refused e g =
      if_false r e m.decided
      (record { once = λ q. omega (arith, none_marked n q, place_once l g q); below = λ q h. place_below l g q (omega arith) })

  module _ (e : r ≡ true) where
    used : New l.fresh (replicate n false) (order l)
    used = if_true r e m.decided

    pub used_below : (q : ℕ) → 0 < tally q (order l) → q < l.fresh
    used_below q h = used.below q h

    marked : (q : ℕ) → marks met q ≡ tally q (order l)
    marked q = omega (arith, none_marked n q, m.marked e q)

    -- and then the freed ones, with the answer t
    module _ {met' : List Bool} {t : Bool} (w : Marks l.fresh (freed l) met met' t) where
      pub freed_refused : t ≡ false → Linked l → ⊥
      freed_refused i g =
          if_false t i w.decided
          (record { once = λ q. omega (arith, marked q, place_once l g q); below = λ q h. place_below l g q (omega arith) })

      both : (q : ℕ) → tally q (order l ++ freed l) ≡ tally q (order l) + tally q (freed l)
      both q = tally_append q (order l) (freed l)

      pub linked_so : t ≡ true → l.len ≤ l.fresh → l.fresh ≤ l.root → Route l.next l.prev l.root (order l) l.root → Linked l
      linked_so i u f p =
          let freed_new : New l.fresh met (freed l) = if_true t i w.decided in
          let long : length (order l ++ freed l) ≡ l.fresh =
          length-append (order l) (freed l) ∙ omega (arith, length_order l, length_walk l.next l.free (l.fresh - l.len)) in
          record {
            route = p;
            once =
                λ q. sym (both q)
                ∙ filled l.fresh (order l ++ freed l) (λ y. omega (arith, both y, marked y, freed_new.once y))
                (λ y h. ⊎_elim (λ (j : tally y (order l) < 1). freed_new.below y (omega (arith, both y)))
                (λ (j : 1 ≤ tally y (order l)). used_below y (omega arith)) (less_or_not (tally y (order l)) 1)) long q;
            some_used = u;
            some_fresh = f;
          }

-- where the list is linked, exactly the places in use are marked
pub marked_so : (l : Places) (n : ℕ) {met : List Bool} (r : Bool) → Marks l.fresh (order l) (replicate n false) met r → Linked l
    → (q : ℕ) → marks met q ≡ tally q (order l)
marked_so l n true m g q = marked l n m refl q
marked_so l n false m g q = absurd (used_refused l n m refl g)
