-- How a function of a map is shown to do its step: from what the step comes to. Assumes nothing.
use mathlib.Core.Path.{◌≡◌, refl, ap, sym, ◌∙◌}
use mathlib.Core.Bool.{Bool, true, false, true≢false}
use mathlib.Core.List.{List}
use Prim.Native.Nat.{ℕ}
use lib.Dec.{ltb}
use Rattle.steps.specs.State.{State}
use Rattle.steps.specs.Call.{Call, Outcome, pack_to, view, posts}
pub use Rattle.steps.specs.Call.{packs}
use Rattle.steps.specs.Step.{step, refusing}
use Rattle.steps.specs.Accounting.{is_refused}
use Rattle.steps.specs.Trace.{Kind, Does}
use Rattle.steps.specs.Coded.{coded}
use Rattle.steps.specs.Told.{Told}
use Rattle.steps.proofs.Checks.{poster_first}

not_pack : (c : Call) → packs c ≡ false → (a b : ℕ) → c ≡ pack_to a b → ⊥
not_pack c h a b e = true≢false (sym (ap packs e) ∙ h)

module _ {Map : Type 0} (M : Kind Map) (c : Call) (m : Map) where
  -- a call that leaves the map as it is: a read, a refusal, or a change that has nothing to do
  pub does_stay : (o : Outcome) → packs c ≡ false → M.Linked m → step c (M.abs m) ≡ (o, M.abs m) → Does M c m o m
  does_stay o p l e =
      record {
        outcome = sym (ap (λ (r : Outcome × State). r.0) e);
        state = sym (ap (λ (r : Outcome × State). r.1) e);
        linked = l;
        same = λ r. refl;
        packed = λ a b i r. absurd (not_pack c p a b i);
      }

  -- any refusal, pack_to's too
  pub does_refuse : (n : ℕ) → M.Linked m → step c (M.abs m) ≡ (refusing c n, M.abs m) → Does M c m (refusing c n) m
  does_refuse n l e =
      record {
        outcome = sym (ap (λ (r : Outcome × State). r.0) e);
        state = sym (ap (λ (r : Outcome × State). r.1) e);
        linked = l;
        same = λ r. refl;
        packed = λ a b i r. absurd (true≢false r);
      }

  -- a change
  pub does_change : (o : Outcome) (s : State) (m' : Map) → packs c ≡ false → is_refused o.answer ≡ false → step c (M.abs m) ≡ (o, s) → M.abs m' ≡ s → M.Linked m'
      → Does M c m o m'
  does_change o s m' p h e i l =
      record {
        outcome = sym (ap (λ (r : Outcome × State). r.0) e);
        state = i ∙ sym (ap (λ (r : Outcome × State). r.1) e);
        linked = l;
        same = λ r. absurd (true≢false (sym r ∙ h));
        packed = λ a b j r. absurd (not_pack c p a b j);
      }

  -- a call whose step is another's
  pub does_as : (d : Call) (o : Outcome) (m' : Map) → packs d ≡ false → step c (M.abs m) ≡ step d (M.abs m) → Does M c m o m' → Does M d m o m'
  does_as d o m' p e h =
      record {
        outcome = h.outcome ∙ ap (λ (r : Outcome × State). r.0) e;
        state = h.state ∙ ap (λ (r : Outcome × State). r.1) e;
        linked = h.linked;
        same = h.same;
        packed = λ a b i r. absurd (not_pack d p a b i);
      }

  -- pack_to that is not refused
  pub does_pack : (o : Outcome) (m' : Map) → is_refused o.answer ≡ false → step c (M.abs m) ≡ (o, M.abs m) → M.abs m' ≡ M.abs m → M.Linked m' → M.Packed m'
      → Does M c m o m'
  does_pack o m' h e i l p =
      record {
        outcome = sym (ap (λ (r : Outcome × State). r.0) e);
        state = i ∙ sym (ap (λ (r : Outcome × State). r.1) e);
        linked = l;
        same = λ r. absurd (true≢false (sym r ∙ h));
        packed = λ a b j r. p;
      }

  -- a call that adds a round and names no poster is refused by 16
  pub does_strange : posts (view c).number ≡ true → M.Linked m → {b : Bool} → b ≡ ltb 15 (view c).poster → b ≡ true → Does M c m (refusing c 16) m
  does_strange p l is h = does_refuse 16 l (poster_first c (M.abs m) p (sym is ∙ h))

  -- its outcome told by numbers
  pub told : {m' : Map} {o : Outcome} {ans : List ℕ} → Does M c m o m' → ans ≡ coded o.answer → Told M c m m' o.slices.out o.slices.out2 ans
  told {o = o} d i = record { outcome = o; does = d; out_is = refl; out2_is = refl; ans_is = i }
