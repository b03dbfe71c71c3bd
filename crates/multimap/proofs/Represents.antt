-- What module 6 of document 01 asks of P, K and T, of every well-linked map: K holds each member of P exactly once and no other, and all three
-- are within their limits. Assumes nothing.
use Prim.Native.Nat.{ℕ}
use mathlib.Core.Path.{◌≡◌, refl, sym, ap, subst, ◌∙◌}
use mathlib.Core.Logic.{◌≢◌, ⊎_elim}
use mathlib.Core.Bool.{Bool, true, false, cond}
use mathlib.Core.List.{List, [], ◌∷◌}
use native.Mathlib.Omega.{arith}
use borrow.Author.Tests.{eq-eqb, ne_eqb}
use lib.Dec.{eqb}
use lib.ListN.{length, length-map}
use Rattle.steps.specs.Lists.{filter}
use Rattle.steps.specs.State.{Pair, has, of, rounds}
use Rattle.steps.specs.Accounting.{times}
use Rattle.steps.specs.Proper.{Proper}
use Rattle.steps.proofs.Filter.{any_one, any_none}
use Rattle.links.specs.Route.{tally, keep}
use Rattle.links.specs.Places.{order}
use Rattle.links.proofs.Routes.{same_or_not, keep_same}
use Rattle.links.proofs.Lists.{place_once}
use Rattle.index.specs.declared.Found.{Found}
use Rattle.index.specs.declared.Found.TheVariants.{At, Absent}
use Rattle.index.specs.Search.{search}
use Rattle.multimap.specs.Map.{at, pairs, members, members_of, state_of}
use Rattle.multimap.specs.WellLinked.{WellLinked}
use Rattle.multimap.specs.declared.ListOrderedMultimap.{ListOrderedMultimap}
use Rattle.multimap.proofs.Stores.{length_pairs, length_members}
use Rattle.multimap.proofs.Records.{NoMember, Member, filter_map, same_number, found, not_found}

-- as many elements are x as x is counted
hits : (x : ℕ) (xs : List ℕ) → length (keep (λ q. eqb q x) xs) ≡ tally x xs
hits x [] = refl
hits x (q ∷ qs) =
    ⊎_elim (λ (e : q ≡ x). rw (eq-eqb q x e, eq-eqb x q (sym e)) (omega (arith, hits x qs)))
    (λ (e : q ≢ x). rw (ne_eqb q x e, ne_eqb x q (λ u. e (sym u))) (omega (arith, hits x qs))) (same_or_not q x)

module _ (m : ListOrderedMultimap) (g : WellLinked m) where
  abbrev ks : List ℕ
  ks = order (members_of m)

  pairs_own : (k : ℕ) → length (rounds k (pairs m)) ≡ length (filter (of k) (pairs m))
  pairs_own k = length-map (filter (of k) (pairs m)) (λ (p : Pair). p.value)

  -- a member stands once in K, and has a pair
  member_once : (k x : ℕ) → Member m k x → times (eqb k) (members m) ≡ 1
  member_once k x w =
      ap length (filter_map (eqb k) (at m.keys) ks)
      ∙ length-map (keep (λ q. eqb k (at m.keys q)) ks) (at m.keys)
      ∙ ap length (keep_same (λ q. eqb k (at m.keys q)) (λ q. eqb q x) ks
      (λ q i. subst (λ (n : ℕ). eqb n (at m.keys q) ≡ eqb q x) w.number (same_number m.index m.keys ks g.index q x i w.member)))
      ∙ hits x ks
      ∙ omega (arith, w.member, place_once (members_of m) g.chained.members x)

  member_has : (k x : ℕ) → Member m k x → (b : Bool) → has k (pairs m) ≡ b → has k (pairs m) ≡ true
  member_has k x w true e = e
  member_has k x w false e = absurd (omega (arith, any_none (of k) (pairs m) e, pairs_own k, w.many, w.some))

  -- no other number has a pair
  other_has : (k : ℕ) → NoMember m k → (b : Bool) → has k (pairs m) ≡ b → has k (pairs m) ≡ false
  other_has k w false e = e
  other_has k w true e = absurd (omega (arith, any_one (of k) (pairs m) e, pairs_own k, ap length w.rounds))

  once : (k : ℕ) → times (eqb k) (members m) ≡ cond (has k (pairs m)) 1 0
  once k = go (search m.index m.keys k) refl
    where
      go : (r : Found) → search m.index m.keys k ≡ r → times (eqb k) (members m) ≡ cond (has k (pairs m)) 1 0
      go (At p x n) e = let w = found m g k p n x e in rw (member_has k x w (has k (pairs m)) refl) (member_once k x w)
      go (Absent p n) e = let w = not_found m g k p n e in rw (other_has k w (has k (pairs m)) refl) (any_none (eqb k) (members m) w.absent)

  pub represents : Proper (state_of m)
  represents =
      record {
        once = once;
        rounds = omega (arith, length_pairs m, g.limited.rounds);
        members = omega (arith, length_members m, g.limited.members);
        posters = g.sized.taken;
        taken = g.taken;
        allowed = g.limited.allowed;
      }
