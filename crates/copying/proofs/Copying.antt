-- A loop that copies along links to the front of a slice, whatever the arrays hold; and what is then written and answered. Assumes nothing.
use Prim.Native.Nat.{ℕ, ◌+◌, ◌≤◌, ◌<◌}
use mathlib.Core.Path.{◌≡◌, refl, sym, ap, ◌∙◌}
use mathlib.Core.List.{List, [], ◌∷◌, map}
use native.Mathlib.Omega.{arith}
use borrow.Author.Tests.{lt-ltb}
use lib.ListN.{length, get_or, set, length-map, get_or-map}
use Rattle.steps.specs.Call.{refused}
use Rattle.steps.specs.Step.{write, over}
use Rattle.links.specs.Route.{walk}
use Rattle.links.proofs.Lists.{length_walk}
use Rattle.links.proofs.Walks.{Passed, passed_none, passed_all, passed_one, more, place_is}
use Rattle.multimap.proofs.Copies.{written, written_one, written_all}
use Rattle.copying.specs.Slices.{along, writing}

-- of the places xs the first i are met, and f of each is written; ws are still to come
pub record Copying {P : Type 0} (f : P → ℕ) (xs : List P) (out₀ : List ℕ) (i : ℕ) (ws : List P) (out : List ℕ) : Type 0 where
  pub fits : length xs ≤ length out₀
  pub passed : Passed xs i ws
  pub front : out ≡ written (map f xs) out₀ i

pub copying_none : {P : Type 0} {f : P → ℕ} {xs ws : List P} {out : List ℕ} → ws ≡ xs → length xs ≤ length out → Copying f xs out 0 ws out
copying_none e h = record { fits = h; passed = passed_none e; front = refl }

module _ {P : Type 0} {f : P → ℕ} {xs : List P} {out₀ : List ℕ} {i : ℕ} {ws : List P} {out : List ℕ} (t : Copying f xs out₀ i ws out) where
  pub all_copied : ws ≡ [] → out ≡ over (map f xs) out₀
  all_copied e = t.front ∙ written_all (map f xs) out₀ i (passed_all t.passed e ∙ sym (length-map xs f))

  pub one_copied : {x : P} {ws' : List P} → ws ≡ x ∷ ws' → {j i' v : ℕ} → j ≡ i → i' ≡ i + 1 → v ≡ f x → Copying f xs out₀ i' ws' (set out j v)
  one_copied {x} e {v = v} z z' h =
      let less : i < length xs = more t.passed e in
      let v_is : v ≡ get_or (map f xs) i (f x) = h ∙ ap f (place_is t.passed e x) ∙ sym (get_or-map f xs i x) in
      record {
        fits = t.fits;
        passed = passed_one t.passed e z';
        front =
            rw (z, z', t.front, v_is)
            (written_one (map f xs) out₀ i (f x) (omega (arith, length-map xs f)) (omega (arith, t.fits)));
      }

-- what is written and answered
module _ {P : Type 0} (f : P → ℕ) (next : P → P) (s : P) (n : ℕ) (out : List ℕ) where
  pub long : length (along f next s n) ≡ n
  long = length-map (walk next s n) f ∙ length_walk next s n

  pub writing_none : length out < n → write (refused 3) out ≡ writing (along f next s n) out
  writing_none h = rw (lt-ltb (length out) (length (along f next s n)) (omega (arith, long)))
