-- A map whose functions each do their step obeys every list of calls.
use mathlib.Core.Path.{◌≡◌, refl, ap, sym, subst, ◌∙◌}
use mathlib.Core.Logic.{◌↔◌}
use mathlib.Core.List.{List}
use native.Mathlib.Omega.{arith}
use lib.ListN.{length}
use Rattle.steps.specs.State.{State, empty}
use Rattle.steps.specs.Call.{Call, Outcome, refused}
use Rattle.steps.specs.Step.{checks, ahead, refusal, step, after, outcomes}
use Rattle.steps.specs.Accounting.{flow_of}
use Rattle.steps.specs.Proper.{Proper, New}
use Rattle.steps.specs.Trace.{Kind, Does, Trace, stop, call, Along, flow_along, AppendExact, RefusedSame, PackedAfter, LimitsKept, Obeys}
use Rattle.steps.proofs.Proper.{proper_empty, step_proper, after_proper}
use Rattle.steps.proofs.Taken.{taken_counts}
use Rattle.steps.proofs.Sums.{append_refused, balanced}
use Rattle.steps.proofs.Limits.{limits_kept}

module _ {Map : Type 0} (M : Kind Map) where
  -- from any state: the outcomes, the state, and the flow of rounds are those of the steps
  follow : {cs : List Call} {m m' : Map} {os : List Outcome} (t : Trace M cs m os m') (s : State) → M.Linked m → M.abs m ≡ s
      → (os ≡ outcomes cs s) × (M.abs m' ≡ after cs s) × M.Linked m' × (flow_along M t ≡ flow_of cs s)
  unfolding outcomes after flow_of
  follow stop s l e = (refl, e, l, refl)
  follow (call {c} {cs} {m} {m'} {o} d t) s l e =
      let h : Does M c m o m' = d l in
      let r = follow t (step c s).1 h.linked (h.state ∙ ap (λ (s : State). (step c s).1) e) in
      (cc, r.1, r.2, cc)

  -- what each call does, on a map that is well-linked and whose P and K are proper, holds along the list
  along : (Q : Call → Map → Outcome → Map → Type 0)
      → ((c : Call) (m : Map) (o : Outcome) (m' : Map) → Proper (M.abs m) → Does M c m o m' → Q c m o m')
      → {cs : List Call} {m m' : Map} {os : List Outcome} (t : Trace M cs m os m') → M.Linked m → Proper (M.abs m) → Along M Q t
  along Q q stop l p = tt
  along Q q (call {c} {cs} {m} {m'} {o} d t) l p =
      let h : Does M c m o m' = d l in
      (q c m o m' p h, along Q q t h.linked (subst Proper (sym h.state) (step_proper c (M.abs m) p)))

  -- what holds of every well-linked map holds after each call
  pub along_linked : (Q : Map → Type 0) → ((m : Map) → M.Linked m → Q m) → {cs : List Call} {m m' : Map} {os : List Outcome} (t : Trace M cs m os m') → M.Linked m
      → Along M (λ c m o m'. Q m') t
  along_linked Q q stop l = tt
  along_linked Q q (call {m'} d t) l = let h = d l in (q m' h.linked, along_linked Q q t h.linked)

  append_exact : (c : Call) (m : Map) (o : Outcome) (m' : Map) → Proper (M.abs m) → Does M c m o m' → AppendExact M c m o m'
  append_exact c m o m' w d p k v e h =
      subst (λ (x : Outcome). (x.answer ≡ refused 1) ↔ (length (M.abs m).pairs ≡ (M.abs m).limits.rounds))
      (sym (d.outcome ∙ ap (λ (x : Call). (step x (M.abs m)).0) e))
      (append_refused p k v (M.abs m) w (sym (ap (λ (x : Call). refusal (ahead 1 (checks x (M.abs m)))) e) ∙ h))

  pub obeys : {cs : List Call} {m m' : Map} {os : List Outcome} (t : Trace M cs m os m') → M.Linked m → New (M.abs m) → Obeys M t
  obeys {cs} {m} {m'} {os} t l new =
      let s : State = empty (M.abs m).limits in
      let r = follow t s l new.state in
      let first : Proper s = proper_empty (M.abs m).limits new.allowed in
      let p : Proper (M.abs m) = subst Proper (sym new.state) first in
      record {
        outcomes = r.0;
        state = r.1;
        linked = r.2;
        linked_all = along (λ c m o m'. M.Linked m') (λ c m o m' p d. d.linked) t l p;
        balanced = rw (r.1, r.3) (omega (arith, balanced cs s));
        counted = rw (r.1, r.3) (taken_counts (M.abs m).limits new.allowed cs);
        appends = along (AppendExact M) append_exact t l p;
        proper = rw r.1 (after_proper cs s first);
        same = along (RefusedSame M) (λ c m o m' p d. d.same) t l p;
        packed = along (PackedAfter M) (λ c m o m' p d. d.packed) t l p;
        limits = along (LimitsKept M) (λ c m o m' p d. ap (λ (s : State). s.limits) d.state ∙ limits_kept c (M.abs m)) t l p;
      }
