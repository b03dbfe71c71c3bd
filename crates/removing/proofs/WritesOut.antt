-- `remove_all`: what `copy` and `remove_record` make of the slice and of the map. Assumes nothing.
use Prim.Native.Nat.{ℕ}
use mathlib.Core.Path.{◌≡◌, refl, sym, ap, ◌∙◌}
use mathlib.Core.Bool.{Bool, true, false, cond, ◌&&◌, and-false}
use mathlib.Core.List.{List, map}
use lib.ListN.{length}
use Rattle.steps.specs.State.{State, rounds, remove_member}
use Rattle.steps.specs.State as St
use Rattle.steps.specs.Call.{Answer, Outcome, remove_all, refused}
use Rattle.steps.specs.Call as C
use Rattle.steps.specs.Step.{step, checks, act, short, write, over}
use Rattle.steps.specs.Trace.{Does}
use Rattle.steps.proofs.Doing.{does_stay, does_refuse, does_change}
use Rattle.links.specs.Stores.{at}
use Rattle.index.specs.Search.{search as searched}
use Rattle.index.specs.declared.KeyPlace.{KeyPlace}
use Rattle.index.specs.declared.Found.TheVariants.{At, Absent}
use Rattle.multimap.specs.declared.ListOrderedMultimap.{ListOrderedMultimap}
use Rattle.multimap.specs.Changes.{base_of}
use Rattle.multimap.specs.Map.{pairs, state_of}
use Rattle.multimap.specs.WellLinked.{WellLinked, linked}
use Rattle.multimap.proofs.Additions.{base_is}
use Rattle.multimap.proofs.Records.{Member, NoMember, found, not_found}
use Rattle.copying.specs.Slices.{along, writing}
use Rattle.removing.specs.Expel.{RecordOut}
use Rattle.removing.proofs.Expels.{same_state, record_out}

module _ (k : ℕ) (out : List ℕ) (s : State) where
  step_short : St.present k s ≡ true → short out (rounds k s.pairs) ≡ true → step (remove_all k out) s ≡ (write (refused 3) out, s)
  unfolding step checks act
  step_short p h = rw (p, h)

  step_done : (St.present k s && short out (rounds k s.pairs)) ≡ false
      → step (remove_all k out) s ≡ (write (C.count (length (rounds k s.pairs))) (over (rounds k s.pairs) out), remove_member k s)
  unfolding step checks act
  step_done e = rw e

module _ (a : ListOrderedMultimap) (g : WellLinked a) (k : ℕ) (out : List ℕ) where
  pub does_all_none : (p n : ℕ) → searched a.index a.keys k ≡ Absent p n → Does linked (remove_all k out) a (write (C.count 0) out) a
  does_all_none p n f =
      let h : NoMember a k = not_found a g k p n f in
      does_stay linked (remove_all k out) a (write (C.count 0) out) refl g
      (step_done k out (state_of a) (rw h.absent) ∙ rw (h.rounds, same_state a g k h))

  -- y is the member's place, h its head, t how many rounds it has; and what `copy` answered and wrote
  module _ (p n : ℕ) (y : KeyPlace) (f : searched a.index a.keys k ≡ At p y n)
      {h t : ℕ} (h_is : h ≡ at a.next_index (base_of y)) (t_is : t ≡ at a.lengths y)
      {x : Answer} {last : List ℕ} (wrote : write x last ≡ writing (along (at a.values) (at a.next_index) h t) out) where
    m : Member a k y
    m = found a g k p n y f

    abbrev rs : List ℕ
    rs = rounds k (pairs a)

    its : along (at a.values) (at a.next_index) h t ≡ rounds k (pairs a)
    its = rw (h_is, base_is y m.inside, t_is) (ap (map (at a.values)) m.walked ∙ sym m.rounds)

    outcome : (b : Bool) → short out (rounds k (pairs a)) ≡ b
        → write x last ≡ cond b (write (refused 3) out) (write (C.count (length (rounds k (pairs a)))) (over (rounds k (pairs a)) out))
    outcome b e =
        wrote ∙ ap (λ (l : List ℕ). writing l out) its
        ∙ ap (λ (c : Bool). cond c (write (refused 3) out) (write (C.count (length rs)) (over rs out))) e

    pub does_short : (i : ℕ) → x ≡ refused i → Does linked (remove_all k out) a (write x last) a
    does_short i is = go (short out rs) refl
      where
        go : (b : Bool) → short out (rounds k (pairs a)) ≡ b → Does linked (remove_all k out) a (write x last) a
        go true e = rw (outcome true e) (does_refuse linked (remove_all k out) a 3 g (step_short k out (state_of a) m.present e))
        go false e = let w : x ≡ C.count (length (rounds k (pairs a))) = ap (λ (o : Outcome). o.answer) (outcome false e) in absurd (cc)

    pub does_all : (i : ℕ) → x ≡ C.count i → (r : ListOrderedMultimap) → RecordOut a y r → Does linked (remove_all k out) a (write x last) r
    does_all i is r d = go (short out rs) refl
      where
        go : (b : Bool) → short out (rounds k (pairs a)) ≡ b → Does linked (remove_all k out) a (write x last) r
        go true e = let w : x ≡ refused 3 = ap (λ (o : Outcome). o.answer) (outcome true e) in absurd (cc)
        go false e =
            let w = record_out a g k y m r d in
            rw (outcome false e)
            (does_change linked (remove_all k out) a (write (C.count (length rs)) (over rs out)) (remove_member k (state_of a)) r refl refl
            (step_done k out (state_of a) (rw e (and-false (St.present k (state_of a))))) w.1 w.0)
