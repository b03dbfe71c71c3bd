-- A loop that writes a list to the front of a slice, as much as it holds. Assumes nothing.
use Prim.Native.Nat.{ℕ, min}
use mathlib.Core.Path.{◌≡◌, ap, ◌∙◌}
use mathlib.Core.List.{List, ◌++◌}
use native.Mathlib.Nat.{zero-add}
use lib.ListN.{length, take, drop}
use lib.Seq.{paste}
use Rattle.std.proofs.lemmas.List.{take_min, drop_min}
use Rattle.std.proofs.Math.Nat.{min_comm}
use Rattle.steps.specs.Step.{onto}

-- after i turns
abbrev pub Written : List ℕ → List ℕ → ℕ → List ℕ → Type 0
Written t out₀ i out = out ≡ paste out₀ 0 t i

-- where it ends
pub all_written : (t out₀ : List ℕ) {i : ℕ} {out : List ℕ} → Written t out₀ i out → i ≡ min (length out₀) (length t) → out ≡ onto t out₀
all_written t out₀ {i} w e =
    w
    ∙ ap (λ (j : ℕ). take i t ++ drop j out₀) (zero-add i)
    ∙ ap (λ (j : ℕ). take j t ++ drop j out₀) e
    ∙ ap (λ (l : List ℕ). l ++ drop (min (length out₀) (length t)) out₀) (take_min (length out₀) t)
    ∙ ap (λ (j : ℕ). take (length out₀) t ++ drop j out₀) (min_comm (length out₀) (length t))
    ∙ ap (λ (l : List ℕ). take (length out₀) t ++ l) (drop_min (length t) out₀)
