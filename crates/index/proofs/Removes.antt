-- What `remove` achieves, from the answer of the search and what closing the gap gives.
-- Assumes nothing.
use mathlib.Core.Path.{◌≡◌, refl, sym, ap, ◌∙◌}
use mathlib.Core.Bool.{true≢false}
use mathlib.Core.List.{List}
use Prim.Native.Nat.{ℕ, ◌<◌}
use lib.ListN.{get_or}
use Rattle.index.specs.declared.Found.TheVariants.{At, Absent}
use Rattle.index.specs.Removal.{Closed, Removed}
use Rattle.index.specs.Search.{search as searched, is_found}
use Rattle.index.proofs.Finds.{says_at, says_absent}

module _ (t keys : List ℕ) (m : ℕ) where
  -- not found: the table stays
  pub removed_none : (p n : ℕ) → searched t keys m ≡ Absent p n → Removed t keys m t
  removed_none p n e =
      record {
        gone = λ ks k h i ek. absurd ((says_absent t keys ks m h p n e).1 k i ek);
        same = λ q i f. refl;
      }

  -- found at p: the gap there is closed
  pub removed_at : (p n k : ℕ) (t' : List ℕ) → searched t keys m ≡ At p k n → Closed t keys p t' → Removed t keys m t'
  unfolding is_found
  removed_at p n k t' e shut =
      record {
        gone =
            λ ks j h i ej.
            let w = says_at t keys ks m h p n k e in
            let here : get_or t p 0 ≡ j = w.1 ∙ h.distinct k j w.2 i (w.3 ∙ sym ej) in
            let full : get_or t p 0 < 256 = rw here (h.place j i) in
            rw here at (shut ks h full);
        same = λ q i f. absurd (true≢false (ap is_found (sym e ∙ f)));
      }
