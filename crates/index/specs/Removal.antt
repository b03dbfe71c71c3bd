-- A member taken out of the index. Which place each other member has afterwards is left open.
use Rattle.std.specs.Prelude.{◌≡◌, ℕ, ◌<◌, get_or}
use mathlib.Core.List.{List, Memᴰ}
use Rattle.index.specs.declared.Found.TheVariants.{Absent}
use Rattle.index.specs.Table.{Holds, without}
use Rattle.index.specs.Search.{search}

-- t' is t without what stands in the place at
abbrev pub Closed : List ℕ → List ℕ → ℕ → List ℕ → Type 0
Closed t keys at t' = (ks : List ℕ) → Holds t keys ks → get_or t at 0 < 256 → Holds t' keys (without (get_or t at 0) ks)

-- t' is t without the member number m. Where t holds it, t' holds all others; where the search does not find it, whatever t holds, t' is t
pub record Removed (t keys : List ℕ) (m : ℕ) (t' : List ℕ) : Type 0 where
  pub gone : (ks : List ℕ) (k : ℕ) → Holds t keys ks → Memᴰ k ks → get_or keys k 0 ≡ m → Holds t' keys (without k ks)
  pub same : (p n : ℕ) → search t keys m ≡ Absent p n → t' ≡ t
