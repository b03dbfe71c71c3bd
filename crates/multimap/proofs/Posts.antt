-- A round that is added to a map is what the step of `append` says. Assumes nothing.
use Prim.Native.Nat.{ℕ, ◌≤◌, ◌<◌}
use mathlib.Core.Path.{◌≡◌, refl}
use mathlib.Core.Bool.{true, false}
use lib.Dec.{ltb}
use Rattle.steps.specs.State as St
use Rattle.steps.specs.State.{State, full, crowded, add}
use Rattle.steps.specs.Call.{append, refused, present}
use Rattle.steps.specs.Step.{step, checks, act, say}
use Rattle.steps.specs.Trace.{Does}
use Rattle.steps.proofs.Doing.{does_refuse, does_change}
use Rattle.links.specs.Places.{order}
use Rattle.multimap.specs.Map.{at, members_of, limits_of, state_of}
use Rattle.multimap.specs.WellLinked.{WellLinked, linked}
use Rattle.multimap.specs.declared.ListOrderedMultimap.{ListOrderedMultimap}
use Rattle.multimap.proofs.Stores.{any_none}
use Rattle.multimap.proofs.Records.{Member}
use Rattle.multimap.proofs.States.{Unknown, is_full, not_full}
use Rattle.multimap.specs.Adding.{Ready, AddedTo, Joins, Joined, Posted, last_key}

module _ (m : ListOrderedMultimap) (k : ℕ) where
  -- a member is ready for a further round
  pub ready_known : (key : ℕ) → WellLinked m → m.rounds.len < (limits_of m).rounds → Member m k key → Ready m key
  ready_known key g room h = record { sized = g.sized; chained = g.chained; here = h.member; others = λ j i n. g.some j i; index = g.index; counted = g.taken; limited = g.limited; room = room }

  -- who is no member can become one
  pub joins_unknown : (p : ℕ) → WellLinked m → m.rounds.len < (limits_of m).rounds → m.members.len < (limits_of m).members → Unknown m k p → Joins m k p
  joins_unknown p g room spare h = record { linked = g; spare = spare; room = room; vacant = h.vacant; new = h.nobody.new }

  -- a further round of a member, and the first round of a new one
  pub posted_known : (poster key v : ℕ) (r : ListOrderedMultimap) → Member m k key → AddedTo m poster key v r → Posted m poster k v r
  posted_known poster key v r h a =
      record { linked = a.linked; state = rw (a.pairs, a.members, a.taken, a.limits, h.number, h.present) }

  pub posted_new : (p poster v : ℕ) (o r : ListOrderedMultimap) → Joins m k p → Joined m k o → AddedTo o poster (last_key o) v r → Posted m poster k v r
  posted_new p poster v o r h j a =
      record {
        linked = a.linked;
        state =
            rw (a.pairs, a.members, a.taken, a.limits, j.pairs, j.members, j.ledger.taken, j.ledger.limits, j.number, any_none (at m.keys) k (order (members_of m)) h.new);
      }

-- ---- the step of `append`, case by case

-- the poster is one of the sixteen
module _ (p k v : ℕ) (s : State) (known : ltb 15 p ≡ false) where
  pub step_full : full s ≡ true → step (append p k v) s ≡ (say (refused 1), s)
  unfolding step checks
  step_full f = rw (known, f)

  pub step_crowded : full s ≡ false → St.present k s ≡ false → crowded s ≡ true → step (append p k v) s ≡ (say (refused 2), s)
  unfolding step checks
  step_crowded f a c = rw (known, f, a, c)

  pub step_known : full s ≡ false → St.present k s ≡ true → step (append p k v) s ≡ (say (present true), add p k v s)
  unfolding step checks act
  step_known f a = rw (known, f, a, a)

  pub step_new : full s ≡ false → St.present k s ≡ false → crowded s ≡ false → step (append p k v) s ≡ (say (present false), add p k v s)
  unfolding step checks act
  step_new f a c = rw (known, f, a, c, a)

module _ (p k v : ℕ) (m : ListOrderedMultimap) (known : ltb 15 p ≡ false) where
  pub append_full : WellLinked m → (limits_of m).rounds ≤ m.rounds.len → Does linked (append p k v) m (say (refused 1)) m
  append_full g h = does_refuse linked (append p k v) m 1 g (step_full p k v (state_of m) known (is_full m h))

  pub append_known : (key : ℕ) (r : ListOrderedMultimap) → m.rounds.len < (limits_of m).rounds → Member m k key → Posted m p k v r → Does linked (append p k v) m (say (present true)) r
  append_known key r h u a =
      does_change linked (append p k v) m (say (present true)) (add p k v (state_of m)) r refl refl (step_known p k v (state_of m) known (not_full m h) u.present) a.state a.linked
