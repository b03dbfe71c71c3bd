-- What `insert` makes of the map. Assumes nothing.
use Prim.Native.Nat.{ℕ, ◌+◌}
use mathlib.Core.Path.{◌≡◌, refl, ap, ◌∙◌}
use mathlib.Core.Bool.{false}
use lib.Dec.{ltb}
use Rattle.steps.specs.Call.{insert, none, round}
use Rattle.steps.specs.Step.{say}
use Rattle.steps.specs.Trace.{Does}
use Rattle.std.specs.Prelude.{Result}
use Rattle.answers.specs.declared.Refusal.{Refusal}
use Rattle.links.specs.Stores.{at}
use Rattle.index.specs.Search.{search as searched}
use Rattle.index.specs.declared.KeyPlace.{KeyPlace}
use Rattle.index.specs.declared.Found.TheVariants.{At, Absent}
use Rattle.multimap.specs.declared.ListOrderedMultimap.{ListOrderedMultimap}
use Rattle.multimap.specs.Changes.{base_of}
use Rattle.multimap.specs.Map.{state_of}
use Rattle.multimap.specs.WellLinked.{WellLinked, linked}
use Rattle.multimap.specs.Adding.{Ready}
use Rattle.multimap.specs.Strike.{Emptied}
use Rattle.multimap.proofs.Additions.{base_is}
use Rattle.multimap.proofs.Records.{Member, found}
use Rattle.multimap.proofs.States.{Unknown, absent_at}
use Rattle.multimap.proofs.Adds.{adds}
use Rattle.multimap.proofs.Emptying.{place_of}
use Rattle.multimap.proofs.Inserts.{step_full, step_crowded, step_new, insert_known}
use Rattle.adding.specs.Admitted.{Admitted}
use Rattle.inserting.specs.Records.{without_record, with_only}
use Rattle.adding.proofs.Admissions.{Entering, admitted, outcome_by}
use Rattle.inserting.proofs.Emptying.{all_struck}

-- the poster is one of the sixteen
module _ (a : ListOrderedMultimap) (g : WellLinked a) (p k v : ℕ) (known : ltb 15 p ≡ false) where
  -- the map with v as the only round of the member in the place x is what the step of `insert` leaves
  pub replaced : (x : ℕ) → Member a k x
      → Does linked (insert p k v) a (say (round (at a.values (at a.next_index (1024 + x))))) (with_only a p x v)
  replaced x m =
      let o : ListOrderedMultimap = without_record a x in
      let d : Emptied a x o = all_struck a x (place_of a g k x m) in
      let e : Ready o x = record {
        sized = d.sized;
        chained = d.chained;
        here = d.member;
        others = d.some;
        index = d.index;
        counted = rw d.ledger.taken g.taken;
        limited = d.limited;
        room = d.room;
      } in
      insert_known p k v a known g x m o d (with_only a p x v) (adds o x e p v)

  -- a member that is there
  pub does_known : (i n : ℕ) (y : KeyPlace) → searched a.index a.keys k ≡ At i y n
      → {h u : ℕ} → h ≡ at a.next_index (base_of y) → u ≡ at a.values h
      → (r : ListOrderedMultimap) → r ≡ with_only a p y v → Does linked (insert p k v) a (say (round u)) r
  does_known i n y f {u = u} h w r is =
      let m : Member a k y = found a g k i n y f in
      let first : u ≡ at a.values (at a.next_index (1024 + y)) = w ∙ ap (at a.values) (h ∙ ap (at a.next_index) (base_is y m.inside)) in
      rw (is, first) (replaced y m)

  -- one that is not
  pub does_new : (i n : ℕ) → searched a.index a.keys k ≡ Absent i n
      → (r : ListOrderedMultimap) (q : Result (Unit {0}) Refusal) → Admitted a p k v i q r
      → Does linked (insert p k v) a (outcome_by (insert p k v) (say none) q) r
  does_new i n f r q d =
      let u : Unknown a k i = absent_at a g k i n f in
      let e : Entering (insert p k v) p k v (say none) (state_of a) = record {
        full = λ h. step_full p k v (state_of a) known u.nobody.absent h;
        crowded = λ h c. step_crowded p k v (state_of a) known u.nobody.absent h c;
        new = λ h c. step_new p k v (state_of a) known u.nobody.absent h c ∙ rw (u.nobody.rounds, u.nobody.others);
        slices = refl;
        accepted = refl;
        stays = refl;
      } in
      admitted a g k i u e d
