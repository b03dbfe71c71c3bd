-- A well-linked map has as many members as its pairs have distinct ones. Assumes nothing.
use Prim.Native.Nat.{ℕ, ◌+◌}
use mathlib.Core.Path.{◌≡◌, refl, sym, ap, ◌∙◌}
use mathlib.Core.Bool.{Bool, true, false, cond}
use mathlib.Core.List.{List, [], ◌∷◌, ◌++◌, append_assoc, append-nil}
use native.Mathlib.Omega.{arith}
use lib.Dec.{eqb}
use lib.ListN.{length, length-append}
use Rattle.steps.specs.Lists.{filter, any}
use Rattle.steps.specs.State.{Pair}
use Rattle.steps.specs.Accounting.{times}
use Rattle.steps.specs.Marked.{firsts}
use Rattle.steps.proofs.Keeps.{Once, once_add}
use Rattle.links.specs.Route.{tally, bit}
use Rattle.links.proofs.Routes.{Split, split_at, tally_same, tally_append}
use Rattle.multimap.specs.declared.ListOrderedMultimap.{ListOrderedMultimap}
use Rattle.multimap.specs.Map.{pairs, members}
use Rattle.multimap.specs.WellLinked.{WellLinked}
use Rattle.multimap.proofs.Represents.{represents}

-- the members in order of first appearance are each member of the pairs, once
pub firsts_once : (met : List ℕ) (qs ps : List Pair) → Once met qs → Once (firsts met ps) (qs ++ ps)
firsts_once met qs [] o = rw append-nil o
firsts_once met qs (p ∷ ps) o =
    rw (← append_assoc qs (p ∷ []) ps)
    (firsts_once (cond (any (eqb p.key) met) met (met ++ (p.key ∷ []))) (qs ++ (p ∷ [])) ps
    (once_add p.key p.value met qs qs o (λ j e. refl)))

-- lists in which each number stands equally often are equally long
same_length : (xs ys : List ℕ) → ((q : ℕ) → tally q xs ≡ tally q ys) → length xs ≡ length ys
same_length [] [] h = refl
same_length [] (y ∷ ys) h = absurd (omega (arith, h y, tally_same y ys))
same_length (x ∷ xs) ys h =
    let s : Split x ys = split_at x ys (omega (arith, h x, tally_same x xs)) in
    let rest : (q : ℕ) → tally q xs ≡ tally q (s.front ++ s.back) =
    λ q. omega (arith, h q, ap (tally q) s.whole, tally_append q s.front (x ∷ s.back), tally_append q s.front s.back) in
    omega (
      arith,
      same_length xs (s.front ++ s.back) rest,
      ap length s.whole,
      length-append s.front (x ∷ s.back),
      length-append s.front s.back,
    )

times_tally : (q : ℕ) (xs : List ℕ) → times (eqb q) xs ≡ tally q xs
times_tally q [] = refl
times_tally q (x ∷ xs) = go (eqb q x) (times_tally q xs)
  where
    go : (b : Bool) → times (eqb q) xs ≡ tally q xs → length (cond b (x ∷ filter (eqb q) xs) (filter (eqb q) xs)) ≡ bit b + tally q xs
    go true e = omega arith
    go false e = omega arith

once_length : (ks js : List ℕ) (ps : List Pair) → Once ks ps → Once js ps → length ks ≡ length js
once_length ks js ps o p = same_length ks js (λ q. sym (times_tally q ks) ∙ o q ∙ sym (p q) ∙ times_tally q js)

pub members_counted : (m : ListOrderedMultimap) → WellLinked m → length (members m) ≡ length (firsts [] (pairs m))
members_counted m g = once_length (members m) (firsts [] (pairs m)) (pairs m) (represents m g).once (firsts_once [] [] (pairs m) (λ k. refl))
