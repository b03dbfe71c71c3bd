-- The turns of `copy_members` and `copy_rounds`: a walk along a list of places that stores what it finds. Assumes nothing.
use Prim.Native.Nat.{ℕ, ◌+◌, ◌<◌}
use mathlib.Core.Path.{◌≡◌, sym, ap, ◌∙◌}
use mathlib.Core.Logic.{◌≢◌, ⊎_elim}
use mathlib.Core.List.{List, [], ◌∷◌, map}
use native.Mathlib.Omega.{arith}
use lib.ListN.{length, get_or, set, length-set, length-map}
use lib.Seq.{get_or-set_same, get_or-set_other}
use Rattle.std.proofs.lemmas.List.{append-nil}
use Rattle.std.proofs.Math.ListN.{drop_of_length-le}
use Rattle.links.proofs.Routes.{same_or_not}
use Rattle.links.proofs.Lists.{length_walk}
use Rattle.links.proofs.Walks.{Passed, more, place_is}
use Rattle.multimap.specs.Map.{at}
use Rattle.multimap.proofs.Copies.{get_d_in}
use Rattle.copying.proofs.Copying.{Copying, one_copied, all_copied}
use Rattle.packing.specs.Building.{listed, Distinct}
use Rattle.packing.proofs.Lists.{nth_apart}

pub long : (next : List ℕ) (root len : ℕ) → length (listed next root len) ≡ len
long next root len = length_walk (at next) (at next root) len

-- of the places xs the first i are met, and f of each stands in `out`, which was out₀; said of a slice as long as the list
abbrev pub Listed : (f : ℕ → ℕ) (xs out₀ : List ℕ) (i : ℕ) (ws out : List ℕ) → Type 0
Listed f xs out₀ i ws out = length out₀ ≡ length xs → Copying f xs out₀ i ws out

module _ {f : ℕ → ℕ} {xs out₀ : List ℕ} {i : ℕ} {ws out : List ℕ} (t : Listed f xs out₀ i ws out) where
  pub one_listed : {x : ℕ} {ws' : List ℕ} → ws ≡ x ∷ ws' → {j i' v : ℕ} {out' : List ℕ} → j ≡ i → i' ≡ i + 1 → v ≡ f x → out' ≡ set out j v → Listed f xs out₀ i' ws' out'
  one_listed e z z' ev eo fits = rw eo (one_copied (t fits) e z z' ev)

  pub all_listed : ws ≡ [] → length out₀ ≡ length xs → out ≡ map f xs
  all_listed e fits =
      all_copied (t fits) e ∙ rw (drop_of_length-le out₀ {i = length (map f xs)} (omega (arith, length-map xs f)), append-nil (map f xs))

-- at each of the first i member places how many come before it
pub record Ranked (ks : List ℕ) (i : ℕ) (ranks : List ℕ) : Type 0 where
  pub long : length ranks ≡ 256
  pub rank : (j : ℕ) → j < i → at ranks (get_or ks j 0) ≡ j

pub one_ranked : {ks ws ws' : List ℕ} {i i' r x : ℕ} {ranks ranks' : List ℕ} → Passed ks i ws → Ranked ks i ranks → Distinct ks 256 → ws ≡ x ∷ ws'
    → r ≡ i → i' ≡ i + 1 → ranks' ≡ set ranks x r → Ranked ks i' ranks'
one_ranked {ks} {i = i} {x = x} {ranks = ranks} p t d step z z' e = rw (e, z, z') (record { long = simp length-set t.long; rank = one })
  where
    within : i < length ks
    within = more p step

    is : x ≡ get_or ks i 0
    is = place_is p step 0

    fits : x < 256
    fits = d.inside x (rw is (get_d_in ks i 0 within))

    one : (j : ℕ) → j < i + 1 → at (set ranks x i) (get_or ks j 0) ≡ j
    one j h =
        ⊎_elim
        (λ (z : j ≡ i).
        ap (λ (y : ℕ). at (set ranks x i) (get_or ks y 0)) z ∙ ap (at (set ranks x i)) (sym is) ∙ get_or-set_same ranks x i 0 (rw t.long fits) ∙ sym z)
        (λ (z : j ≢ i).
        get_or-set_other ranks x (get_or ks j 0) i 0 (λ k. nth_apart ks j i 0 d.once (omega arith) within (k ∙ is)) ∙ t.rank j (omega arith))
        (same_or_not j i)
