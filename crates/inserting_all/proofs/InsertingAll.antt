-- What `insert_all` makes of the map and of the slice. Assumes nothing.
use Prim.Native.Nat.{ℕ}
use mathlib.Core.Path.{◌≡◌, refl, sym, ap, ◌∙◌}
use mathlib.Core.Bool.{Bool, true, false, cond}
use mathlib.Core.List.{List, map}
use lib.Dec.{ltb}
use lib.ListN.{length}
use Rattle.steps.specs.State as St
use Rattle.steps.specs.State.{State, rounds, replace}
use Rattle.steps.specs.Call.{Outcome, refused, count, insert_all}
use Rattle.steps.specs.Step.{step, checks, act, short, write, over}
use Rattle.steps.specs.Trace.{Does}
use Rattle.steps.proofs.Doing.{does_refuse, does_change}
use Rattle.links.specs.Stores.{at}
use Rattle.std.specs.Prelude.{Result}
use Rattle.answers.specs.declared.Refusal.{Refusal}
use Rattle.index.specs.Search.{search as searched}
use Rattle.index.specs.declared.KeyPlace.{KeyPlace}
use Rattle.index.specs.declared.Found.TheVariants.{At, Absent}
use Rattle.multimap.specs.declared.ListOrderedMultimap.{ListOrderedMultimap}
use Rattle.multimap.specs.Changes.{base_of}
use Rattle.multimap.specs.Map.{pairs, state_of}
use Rattle.multimap.specs.WellLinked.{WellLinked, linked}
use Rattle.multimap.proofs.Additions.{base_is}
use Rattle.multimap.proofs.Records.{Member, found}
use Rattle.multimap.proofs.States.{Unknown, absent_at}
use Rattle.multimap.proofs.Inserts.{step_known}
use Rattle.adding.specs.Admitted.{Admitted}
use Rattle.inserting.specs.Records.{with_only}
use Rattle.copying.specs.Slices.{along, writing}
use Rattle.adding.proofs.Admissions.{Entering, admitted, outcome_by}
use Rattle.inserting.proofs.Inserting.{replaced}

-- ---- the step, case by case

-- the poster is one of the sixteen
module _ (p k v : ℕ) (out : List ℕ) (s : State) (known : ltb 15 p ≡ false) where
  step_all_full : St.present k s ≡ false → St.full s ≡ true → step (insert_all p k v out) s ≡ (write (refused 1) out, s)
  unfolding step checks
  step_all_full a f = rw (known, a, f)

  step_all_crowded : St.present k s ≡ false → St.full s ≡ false → St.crowded s ≡ true
      → step (insert_all p k v out) s ≡ (write (refused 2) out, s)
  unfolding step checks
  step_all_crowded a f c = rw (known, a, f, c)

  step_all_short : St.present k s ≡ true → short out (rounds k s.pairs) ≡ true → step (insert_all p k v out) s ≡ (write (refused 3) out, s)
  unfolding step checks
  step_all_short a h = rw (known, a, h)

  step_all_known : St.present k s ≡ true → short out (rounds k s.pairs) ≡ false
      → step (insert_all p k v out) s ≡ (write (count (length (rounds k s.pairs))) (over (rounds k s.pairs) out), replace p k v s)
  unfolding step checks act
  step_all_known a h = rw (known, a, h, a)

  step_all_new : St.present k s ≡ false → St.full s ≡ false → St.crowded s ≡ false
      → step (insert_all p k v out) s ≡ (write (count (length (rounds k s.pairs))) (over (rounds k s.pairs) out), replace p k v s)
  unfolding step checks act
  step_all_new a f c = rw (known, a, f, c, a)

-- ---- the copy

-- what is refused was short, and what is counted was not
refused_short : (b : Bool) (n m : ℕ) (last out l : List ℕ) → write (refused n) last ≡ cond b (write (refused 3) out) (write (count m) l) → b ≡ true
refused_short true n m last out l e = refl
refused_short false n m last out l e = let d : refused n ≡ count m = ap (λ (o : Outcome). o.answer) e in cc

counted_long : (b : Bool) (n m : ℕ) (last out l : List ℕ) → write (count n) last ≡ cond b (write (refused 3) out) (write (count m) l) → b ≡ false
counted_long false n m last out l e = refl
counted_long true n m last out l e = let d : count n ≡ refused 3 = ap (λ (o : Outcome). o.answer) e in cc

-- ---- the map

module _ (a : ListOrderedMultimap) (g : WellLinked a) (p k v : ℕ) (known : ltb 15 p ≡ false) (out : List ℕ) where
  -- a member that is there: its record has been copied, or was too long
  module _ (i n : ℕ) (y : KeyPlace) (f : searched a.index a.keys k ≡ At i y n) where
    m : Member a k y
    m = found a g k i n y f

    abbrev rs : List ℕ
    rs = rounds k (pairs a)

    module _ {h t : ℕ} (head : h ≡ at a.next_index (base_of y)) (size : t ≡ at a.lengths y) where
      its : along (at a.values) (at a.next_index) h t ≡ rs
      its = rw (head, base_is y m.inside, size) (ap (map (at a.values)) m.walked ∙ sym m.rounds)

      pub does_short : (u : ℕ) (last : List ℕ) → write (refused u) last ≡ writing (along (at a.values) (at a.next_index) h t) out
          → Does linked (insert_all p k v out) a (write (refused u) last) a
      does_short u last w =
          let e : write (refused u) last ≡ writing rs out = w ∙ ap (λ (q : List ℕ). writing q out) its in
          let s : short out rs ≡ true = refused_short _ _ _ _ _ _ e in
          let o : write (refused u) last ≡ write (refused 3) out = e ∙ rw s in
          rw o (does_refuse linked (insert_all p k v out) a 3 g (step_all_short p k v out (state_of a) known m.present s))

      pub does_known : (u : ℕ) (last : List ℕ) → write (count u) last ≡ writing (along (at a.values) (at a.next_index) h t) out
          → (r : ListOrderedMultimap) → r ≡ with_only a p y v → Does linked (insert_all p k v out) a (write (count u) last) r
      does_known u last w r is =
          let d = replaced a g p k v known y m in
          let e : write (count u) last ≡ writing rs out = w ∙ ap (λ (q : List ℕ). writing q out) its in
          let s : short out rs ≡ false = counted_long _ _ _ _ _ _ e in
          let o : write (count u) last ≡ write (count (length rs)) (over rs out) = e ∙ rw s in
          rw (is, o)
          (does_change linked (insert_all p k v out) a (write (count (length rs)) (over rs out)) (replace p k v (state_of a)) (with_only a p y v)
          refl refl (step_all_known p k v out (state_of a) known m.present s)
          (d.state ∙ ap (λ (q : Outcome × State). q.1) (step_known p k v (state_of a) known m.present)) d.linked)

  -- one that is not
  pub does_new : (i n : ℕ) → searched a.index a.keys k ≡ Absent i n
      → (r : ListOrderedMultimap) (q : Result (Unit {0}) Refusal) → Admitted a p k v i q r
      → Does linked (insert_all p k v out) a (outcome_by (insert_all p k v out) (write (count 0) out) q) r
  does_new i n f r q d =
      let u : Unknown a k i = absent_at a g k i n f in
      let e : Entering (insert_all p k v out) p k v (write (count 0) out) (state_of a) = record {
        full = λ h. step_all_full p k v out (state_of a) known u.nobody.absent h;
        crowded = λ h c. step_all_crowded p k v out (state_of a) known u.nobody.absent h c;
        new = λ h c. step_all_new p k v out (state_of a) known u.nobody.absent h c ∙ rw (u.nobody.rounds, u.nobody.others);
        slices = refl;
        accepted = refl;
        stays = refl;
      } in
      admitted a g k i u e d
