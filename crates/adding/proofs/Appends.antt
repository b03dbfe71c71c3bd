-- What `append` makes of the map. Assumes nothing.
use Prim.Native.Nat.{ℕ, ◌<◌}
use mathlib.Core.Path.{◌≡◌, refl}
use mathlib.Core.Bool.{true, false}
use lib.Dec.{ltb}
use Rattle.steps.specs.Call.{append, present}
use Rattle.steps.specs.Step.{say}
use Rattle.steps.specs.Trace.{Does}
use Rattle.std.specs.Prelude.{Result}
use Rattle.answers.specs.declared.Refusal.{Refusal}
use Rattle.index.specs.Search.{search as searched}
use Rattle.index.specs.declared.KeyPlace.{KeyPlace}
use Rattle.index.specs.declared.Found.TheVariants.{At, Absent}
use Rattle.multimap.specs.declared.ListOrderedMultimap.{ListOrderedMultimap}
use Rattle.multimap.specs.Changes.{with_round}
use Rattle.multimap.specs.Map.{limits_of, state_of}
use Rattle.multimap.specs.WellLinked.{WellLinked, linked}
use Rattle.multimap.proofs.Records.{Member, found}
use Rattle.multimap.proofs.States.{Unknown, absent_at}
use Rattle.multimap.proofs.Adds.{adds}
use Rattle.multimap.proofs.Posts.{ready_known, posted_known, step_full, step_crowded, step_new, append_known}
use Rattle.adding.specs.Admitted.{Admitted}
use Rattle.adding.proofs.Admissions.{Entering, admitted, outcome_by}

module _ (a : ListOrderedMultimap) (g : WellLinked a) (p k v : ℕ) (known : ltb 15 p ≡ false) where
  -- a member that is there
  pub does_known : a.rounds.len < (limits_of a).rounds → (i n : ℕ) (y : KeyPlace) → searched a.index a.keys k ≡ At i y n
      → (r : ListOrderedMultimap) → r ≡ with_round a p y v → Does linked (append p k v) a (say (present true)) r
  does_known room i n y f r is =
      let o : ListOrderedMultimap = with_round a p y v in
      let m : Member a k y = found a g k i n y f in
      rw is (append_known p k v a known y o room m (posted_known a k p y v o m (adds a y (ready_known a k y g room m) p v)))

  -- one that is not
  pub does_new : (i n : ℕ) → searched a.index a.keys k ≡ Absent i n
      → (r : ListOrderedMultimap) (q : Result (Unit {0}) Refusal) → Admitted a p k v i q r
      → Does linked (append p k v) a (outcome_by (append p k v) (say (present false)) q) r
  does_new i n f r q d =
      let u : Unknown a k i = absent_at a g k i n f in
      let e : Entering (append p k v) p k v (say (present false)) (state_of a) = record {
        full = step_full p k v (state_of a) known;
        crowded = λ h c. step_crowded p k v (state_of a) known h u.nobody.absent c;
        new = λ h c. step_new p k v (state_of a) known h u.nobody.absent c;
        slices = refl;
        accepted = refl;
        stays = refl;
      } in
      admitted a g k i u e d
