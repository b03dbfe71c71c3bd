-- `multimap::bare` meets its contract. Assumes nothing.
use mathlib.Core.Path.{refl, ◌∙◌}
use Prim.Native.Nat.{ℕ, ◌<◌}
use lib.ListN.{replicate, get_or-replicate, length-replicate, length-set}
use lib.Seq.{get_or-set_same}
use native.Mathlib.Omega.{arith}
use Rattle.steps.proofs.Posters.{none_taken}
use Rattle.index.proofs.Table.{bare}
use Rattle.multimap.proofs.Empty.{empty_map}
use Rattle.multimap.proofs.bare.Goals as goal

pub returns : goal.returns
returns c =
    let last = λ (n i x : ℕ) (l : i < n). get_or-set_same (replicate n 0) i x 0 (rw (length-replicate {A = ℕ} n 0) l) in
    let long = λ (n i x : ℕ). length-set (replicate n 0) i x ∙ length-replicate {A = ℕ} n 0 in
    rw (c.new-first_key.ensures, c.empty.ensures, c.unused.ensures, c.unused-2.ensures, c.new.ensures, c.new-2.ensures)
    (empty_map _ refl refl (replicate 16 0) refl refl refl (last 1025 1024 1024 (omega arith)) (last 1025 1024 1024 (omega arith))
    (last 257 256 256 (omega arith)) (last 257 256 256 (omega arith))
    record {
      keys = length-replicate {A = ℕ} 256 0;
      lengths = length-replicate {A = ℕ} 256 0;
      next_key = long 257 256 256;
      previous_key = long 257 256 256;
      values = length-replicate {A = ℕ} 1024 0;
      key_index = length-replicate {A = ℕ} 1024 0;
      next_value = long 1025 1024 1024;
      previous_value = long 1025 1024 1024;
      next_index = length-replicate {A = ℕ} 1280 0;
      previous_index = length-replicate {A = ℕ} 1280 0;
      index = length-replicate {A = ℕ} 512 65535;
      taken = length-replicate {A = ℕ} 16 0;
    }
    (bare _ _ refl (λ p lp. get_or-replicate 512 p 65535 0 lp)) c.limits.view_is c.requires (none_taken 16))
