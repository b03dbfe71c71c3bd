-- Two bytes taken in, and then the bytes above them. Assumes nothing.
use Rattle.std.proofs.Common.{◌≡◌, ℕ, suc, ◌/◌, ap, ◌∙◌, arith}
use Rattle.fnv.specs.Fnv.{fold, bytes}

pub two_more : (n h x two rest : ℕ) {r : ℕ} → two ≡ fold h (bytes 2 x) → rest ≡ x / 65536 → r ≡ fold two (bytes n rest)
    → r ≡ fold h (bytes (suc (suc n)) x)
unfolding fold bytes
two_more n h x two rest et er e =
    let d : rest ≡ x / 256 / 256 = omega arith in
    e ∙ ap (λ (t : ℕ). fold t (bytes n rest)) et ∙ ap (λ (u : ℕ). fold (fold h (bytes 2 x)) (bytes n u)) d
