-- A new member joins with its first round, or is refused: what `admit` leaves is what the steps say. Assumes nothing.
use Prim.Native.Nat.{ℕ, ◌≤◌, ◌<◌}
use mathlib.Core.Path.{◌≡◌, sym, subst}
use mathlib.Core.Bool.{true, false}
use mathlib.Core.Logic.{⊎_elim}
use Rattle.index.proofs.Pigeon.{less_or_not}
use Rattle.steps.specs.State as St
use Rattle.steps.specs.State.{State, add}
use Rattle.steps.specs.Call.{Call, Outcome, lent, packs}
use Rattle.steps.specs.Step.{step, refusing}
use Rattle.steps.specs.Accounting.{is_refused}
use Rattle.steps.specs.Trace.{Does}
use Rattle.std.specs.Prelude.{Result, Ok, Err}
use Rattle.answers.specs.Answers.{number_of}
use Rattle.answers.specs.declared.Refusal.{Refusal}
use Rattle.steps.proofs.Doing.{does_refuse, does_change}
use Rattle.links.specs.Stores.{spot}
use Rattle.multimap.specs.declared.ListOrderedMultimap.{ListOrderedMultimap}
use Rattle.multimap.specs.Changes.{with_member}
use Rattle.multimap.specs.Map.{limits_of, state_of}
use Rattle.multimap.specs.WellLinked.{WellLinked, linked}
use Rattle.multimap.specs.Adding.{Ready, AddedTo, Joins, Joined, Posted, last_key}
use Rattle.multimap.proofs.States.{Unknown, is_full, not_full, is_crowded, not_crowded}
use Rattle.multimap.proofs.Joins.{joins, last_now}
use Rattle.multimap.proofs.Adds.{adds}
use Rattle.multimap.proofs.Posts.{joins_unknown, posted_new}
use Rattle.adding.specs.Admitted.{with_first, Admitted}

-- ---- the step

-- c adds the round v of k, who is no member, for the poster: it is refused by 1 or by 2, or else its outcome is o
pub record Entering (c : Call) (poster k v : ℕ) (o : Outcome) (s : State) : Type 0 where
  pub full : St.full s ≡ true → step c s ≡ (refusing c 1, s)
  pub crowded : St.full s ≡ false → St.crowded s ≡ true → step c s ≡ (refusing c 2, s)
  pub new : St.full s ≡ false → St.crowded s ≡ false → step c s ≡ (o, add poster k v s)
  pub slices : o.slices ≡ lent c
  pub accepted : is_refused o.answer ≡ false
  pub stays : packs c ≡ false

-- the outcome of c where `admit` gives q: o, or the refusal
abbrev pub outcome_by : Call → Outcome → Result (Unit {0}) Refusal → Outcome
outcome_by c o (Ok d) = o
outcome_by c o (Err r) = refusing c (number_of r)

module _ (a : ListOrderedMultimap) (g : WellLinked a) (k p : ℕ) (u : Unknown a k p) where
  pub first_posted : (poster v : ℕ) → a.rounds.len < (limits_of a).rounds → a.members.len < (limits_of a).members → Posted a poster k v (with_first a poster k v p)
  first_posted poster v room spare =
      let o : ListOrderedMultimap = with_member a k p in
      let h : Joins a k p = joins_unknown a k p g room spare u in
      let l : last_key o ≡ spot a.members = last_now a k p h in
      let j : Joined a k o = joins a k p h in
      posted_new a k p poster v o (with_first a poster k v p) h j
      (subst (λ (q : ℕ). AddedTo o poster q v (with_first a poster k v p)) (sym l) (adds o (spot a.members) (subst (Ready o) l j.ready) poster v))

  pub admitted : {c : Call} {poster v : ℕ} {o : Outcome} → Entering c poster k v o (state_of a)
      → {r : ListOrderedMultimap} {q : Result (Unit {0}) Refusal} → Admitted a poster k v p q r → Does linked c a (outcome_by c o q) r
  admitted {c} {poster} {v} {o} e {r} {q} d =
      ⊎_elim
      (λ (room : a.rounds.len < (limits_of a).rounds).
      ⊎_elim (λ (spare : a.members.len < (limits_of a).members). enters room spare)
      (λ (f : (limits_of a).members ≤ a.members.len). let w = d.crowded room f in rw (w.1, w.0) (does_refuse linked c a 2 g (e.crowded (not_full a room) (is_crowded a f))))
      (less_or_not a.members.len (limits_of a).members))
      (λ (f : (limits_of a).rounds ≤ a.rounds.len). let w = d.full f in rw (w.1, w.0) (does_refuse linked c a 1 g (e.full (is_full a f))))
      (less_or_not a.rounds.len (limits_of a).rounds)
    where
      enters : a.rounds.len < (limits_of a).rounds → a.members.len < (limits_of a).members → Does linked c a (outcome_by c o q) r
      enters room spare =
          let n : Posted a poster k v (with_first a poster k v p) = first_posted poster v room spare in
          let w = d.enters room spare in
          rw (w.1, w.0)
          (does_change linked c a o (add poster k v (state_of a)) (with_first a poster k v p) e.stays e.accepted
          (e.new (not_full a room) (not_crowded a spare)) n.state n.linked)
