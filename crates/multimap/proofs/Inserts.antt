-- The step of `insert`. Assumes nothing.
use Prim.Native.Nat.{ℕ, ◌+◌}
use mathlib.Core.Path.{◌≡◌, refl, ap, ◌∙◌}
use mathlib.Core.Bool.{true, false}
use mathlib.Core.List.{List}
use lib.Dec.{ltb}
use Rattle.steps.specs.State as St
use Rattle.steps.specs.State.{State, rounds, others, replace, full, crowded}
use Rattle.steps.specs.Call.{refused, round, insert}
use Rattle.steps.specs.Step.{step, checks, act, say, first}
use Rattle.steps.specs.Trace.{Does}
use Rattle.steps.proofs.Doing.{does_change}
use Rattle.multimap.specs.Map.{at, pairs, state_of}
use Rattle.multimap.specs.WellLinked.{WellLinked, linked}
use Rattle.multimap.specs.declared.ListOrderedMultimap.{ListOrderedMultimap}
use Rattle.multimap.proofs.Records.{Member, first_round}
use Rattle.multimap.specs.Adding.{AddedTo}
use Rattle.multimap.specs.Strike.{Emptied}

-- ---- the steps, case by case

-- the poster is one of the sixteen
module _ (p k v : ℕ) (s : State) (known : ltb 15 p ≡ false) where
  pub step_full : St.present k s ≡ false → full s ≡ true → step (insert p k v) s ≡ (say (refused 1), s)
  unfolding step checks
  step_full a f = rw (known, a, f)

  pub step_crowded : St.present k s ≡ false → full s ≡ false → crowded s ≡ true → step (insert p k v) s ≡ (say (refused 2), s)
  unfolding step checks
  step_crowded a f c = rw (known, a, f, c)

  pub step_known : St.present k s ≡ true → step (insert p k v) s ≡ (say (first (rounds k s.pairs)), replace p k v s)
  unfolding step checks act
  step_known a = rw (known, a, a)

  pub step_new : St.present k s ≡ false → full s ≡ false → crowded s ≡ false → step (insert p k v) s ≡ (say (first (rounds k s.pairs)), replace p k v s)
  unfolding step checks act
  step_new a f c = rw (known, a, f, c, a)

-- ---- the map

module _ (p k v : ℕ) (m : ListOrderedMultimap) (known : ltb 15 p ≡ false) (g : WellLinked m) where
  -- the member place x has the number k
  module _ (x : ℕ) (u : Member m k x) where
    module _ (o : ListOrderedMultimap) (d : Emptied m x o) (r : ListOrderedMultimap) (a : AddedTo o p x v r) where
      number : at o.keys x ≡ k
      number = ap (λ (l : List ℕ). at l x) d.keys ∙ u.number

      left : pairs o ≡ others k (pairs m)
      left = d.pairs ∙ ap (λ (n : ℕ). others n (pairs m)) u.number

      state : state_of r ≡ replace p k v (state_of m)
      state = rw (a.pairs, a.members, a.taken, a.limits, number, left, d.members, d.ledger.taken, d.ledger.limits, u.present)

      pub insert_known : Does linked (insert p k v) m (say (round (at m.values (at m.next_index (1024 + x))))) r
      insert_known =
          let h : ℕ = at m.next_index (1024 + x) in
          let e : first (rounds k (pairs m)) ≡ round (at m.values h) = first_round m g k x u in
          does_change linked (insert p k v) m (say (round (at m.values h))) (replace p k v (state_of m)) r refl refl
          (step_known p k v (state_of m) known u.present ∙ rw e) state a.linked
