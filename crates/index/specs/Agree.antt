-- When an index agrees with the member places that are in use: what the check of a map asks of its index.
use Rattle.std.specs.Prelude.{◌≡◌, Bool, true, false, ◌⊎◌, ℕ, ◌<◌, ◌≤◌, length, get_or}
use mathlib.Core.List.{List, Memᴰ}
use Rattle.index.specs.declared.Found.{Found}
use Rattle.index.specs.declared.Found.TheVariants.{At, Absent}
use Rattle.index.specs.Search.{search}

-- b says whether P
abbrev pub Decides : Bool → Type 0 → Type 0
Decides true P = P
Decides false P = P → ⊥

-- the search ended at the place p with what it looked for
unfoldable pub FoundIn : ℕ → Found → Type 0
FoundIn p (At q k n) = q ≡ p
FoundIn p (Absent q n) = ⊥

-- the search found the member place l
unfoldable pub FoundKey : ℕ → Found → Type 0
FoundKey l (At q k n) = k ≡ l
FoundKey l (Absent q n) = ⊥

-- the place p is empty, or holds a member place in use whose member is found there
unfoldable pub PlaceOk : List ℕ → List ℕ → List Bool → ℕ → Type 0
PlaceOk t keys used p =
    (get_or t p 0 ≡ 65535)
    ⊎ ((get_or t p 0 < 256) × (get_or used (get_or t p 0) false ≡ true) × FoundIn p (search t keys (get_or keys (get_or t p 0) 0)))

-- the member place k is not in use, or its member is found under it
unfoldable pub KeyOk : List ℕ → List ℕ → List Bool → ℕ → Type 0
KeyOk t keys used k = get_or used k false ≡ true → FoundKey k (search t keys (get_or keys k 0))

-- ks has the member places in use, and at most 256
pub record Lists (used : List Bool) (ks : List ℕ) : Type 0 where
  pub few : length ks ≤ 256
  pub to : (k : ℕ) → k < 256 → get_or used k false ≡ true → Memᴰ k ks
  pub of : (k : ℕ) → Memᴰ k ks → (k < 256) × (get_or used k false ≡ true)
