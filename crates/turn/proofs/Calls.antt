-- A call by its number: from what the call's own function does. Assumes nothing.
use Prim.Native.Nat.{ℕ, ◌≤◌, zero-le}
use mathlib.Core.Path.{◌≡◌, refl}
use mathlib.Core.Bool.{false}
use mathlib.Core.Logic.{◌≢◌, ⊎_elim}
use mathlib.Core.List.{List}
use native.Mathlib.Omega.{arith}
use lib.ListN.{get_or-eq_default}
use lib.Dec.{eqb}
use borrow.Author.Tests.{ne_eqb}
use Rattle.steps.specs.Call.{Answer, call_of, lends, values_len}
use Rattle.steps.specs.Step.{say}
use Rattle.answers.proofs.Reading.{NoneFrom, at_least}
use Rattle.links.proofs.Routes.{same_or_not}
use Rattle.multimap.specs.declared.ListOrderedMultimap.{ListOrderedMultimap}
use Rattle.multimap.specs.WellLinked.{Calls}
use Rattle.turn.specs.Turned.{Called}

-- from 21 on, but for 22 and 23, the call is `values_len`
module _ (op : ℕ) (h : 21 ≤ op) (not_22 : op ≡ 22 → ⊥) (not_23 : op ≡ 23 → ⊥) where
  other : (j : ℕ) → (op ≡ j → ⊥) → eqb op j ≡ false
  other j n = ne_eqb op j n

  no_lends : lends op ≡ false
  no_lends =
      simp
      (other 2 (λ e. omega arith), other 4 (λ e. omega arith), other 16 (λ e. omega arith), other 19 (λ e. omega arith), other 22 not_22, other 23 not_23)

  last_call : (poster k v : ℕ) (out out2 marks : List ℕ) → call_of op poster k v out out2 marks ≡ values_len
  last_call poster k v out out2 marks =
      ⊎_elim (λ (e : op ≡ 21). rw e) (λ (e : op ≢ 21). rw (get_or-eq_default _ _ {n = op} (past e))) (same_or_not op 21)
    where
      past : op ≢ 21 → 24 ≤ op
      past e = omega arith

  pub is_values_len : {poster k v : ℕ} {m m' : ListOrderedMultimap} {out out2 marks : List ℕ} {a : Answer} → Calls values_len m (say a) m'
      → Called op poster k v m m' out out2 marks out out2 a
  is_values_len {poster} {k} {v} {out = out} {out2} {marks} d =
      record { does = rw (no_lends, other 22 not_22, last_call poster k v out out2 marks) d; kept = λ e. refl; kept2 = λ e. refl }

-- what the last arm of the match is told of a number
pub of_no_other : (op : ℕ) → (NoneFrom 0 op 21 × (op ≡ 22 → ⊥)) × (op ≡ 23 → ⊥)
    → {poster k v : ℕ} {m m' : ListOrderedMultimap} {out out2 marks : List ℕ} {a : Answer} → Calls values_len m (say a) m'
    → Called op poster k v m m' out out2 marks out out2 a
of_no_other op h d = is_values_len op (at_least 0 op 21 zero-le h.0.0) h.0.1 h.1 d
