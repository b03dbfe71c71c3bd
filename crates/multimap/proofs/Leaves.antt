-- What `leave` makes of the map, and the pops over it. Assumes nothing.
use Prim.Native.Nat.{ℕ, ◌≤◌, ◌<◌}
use mathlib.Core.Path.{◌≡◌, refl, sym, ap, ◌∙◌, subst}
use mathlib.Core.Logic.{⊎_elim, ◌⊎◌, inl, inr}
use mathlib.Core.Bool.{Bool, true, false, not}
use borrow.Author.Tests.{ltb-true, ltb-false}
use lib.Dec.{ltb}
use Rattle.steps.specs.State.{has}
use Rattle.steps.specs.Call.{popped}
use Rattle.links.specs.Route.{tally}
use Rattle.links.specs.Places.{order}
use Rattle.links.specs.Stores.{at}
use Rattle.multimap.specs.declared.ListOrderedMultimap.{ListOrderedMultimap}
use Rattle.multimap.specs.Map.{pair_at, rounds_of}
use Rattle.multimap.specs.Changes.{without_round, without_member, Parted, Left}
use Rattle.multimap.specs.WellLinked.{WellLinked}
use Rattle.multimap.specs.Strike.{RoundPlace}
use Rattle.multimap.specs.Popping.{PoppedAt, rest, PairGone}
use Rattle.multimap.proofs.Pops.{stored_one, stored_both, round_struck}

-- ---- the law

more_or_not : (n : ℕ) → (1 < n) ⊎ (n ≤ 1)
more_or_not n = go (ltb 1 n) refl
  where
    go : (b : Bool) → ltb 1 n ≡ b → (1 < n) ⊎ (n ≤ 1)
    go true e = inl (ltb-true 1 n e)
    go false e = inr (ltb-false 1 n e)

module _ (a : ListOrderedMultimap) (g : WellLinked a) (x : ℕ) (i : 0 < tally x (order (rounds_of a))) where
  here : RoundPlace a x
  here = record { linked = g; inside = i }

  abbrev key : ℕ
  key = at a.key_index x

  gone_so : (b : Bool) (r : ListOrderedMultimap) → PoppedAt a x (popped (at a.keys key) (at a.values x) b) r → b ≡ not (has (pair_at a x).key (rest a x))
  gone_so b r p = let e = p.answer in cc

  pub pair_gone : (gone : Bool) (r : ListOrderedMultimap) → Left a x gone r → PairGone a x gone r
  pair_gone gone r d = ⊎_elim one both (more_or_not (at a.lengths key))
    where
      one : 1 < at a.lengths (at a.key_index x) → PairGone a x gone r
      one h =
          let e : r ≡ without_round a x = (d.stays h).1 in
          let p : PoppedAt a x (popped (at a.keys key) (at a.values x) false) r =
          subst (PoppedAt a x (popped (at a.keys key) (at a.values x) false)) (sym e) (stored_one a g.sized x here h) in
          record {
            linked = p.linked;
            state = p.state;
            left = ap (λ (q : ListOrderedMultimap). order (rounds_of q)) e ∙ (round_struck a g.sized x here).left;
            same = ap pair_at e;
            key_index = ap (λ (q : ListOrderedMultimap). q.key_index) e;
            gone_is = (d.stays h).0 ∙ gone_so false r p;
          }

      both : at a.lengths (at a.key_index x) ≤ 1 → PairGone a x gone r
      both h =
          let w : Parted (without_round a x) key r = (d.goes h).1 in
          let e : r ≡ without_member (without_round a x) key r.index = w.rest in
          let p : PoppedAt a x (popped (at a.keys key) (at a.values x) true) r =
          subst (PoppedAt a x (popped (at a.keys key) (at a.values x) true)) (sym e) (stored_both a g.sized x here h r.index w.removed) in
          record {
            linked = p.linked;
            state = p.state;
            left = ap (λ (q : ListOrderedMultimap). order (rounds_of q)) e ∙ (round_struck a g.sized x here).left;
            same = ap pair_at e;
            key_index = ap (λ (q : ListOrderedMultimap). q.key_index) e;
            gone_is = (d.goes h).0 ∙ gone_so true r p;
          }
