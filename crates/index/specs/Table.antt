-- The index: a table of 512 places in a cycle, each empty or holding the member place of a member.
use Rattle.std.specs.Prelude.{◌≡◌, Bool, true, false, ◌⊎◌, ℕ, ◌+◌, ◌-◌, ◌%◌, ◌<◌, ◌≤◌, eqb, length, get_or, replicate}
use mathlib.Core.List.{List, [], ◌∷◌, Memᴰ}
use Rattle.fnv.specs.Fnv.{hash_of}

-- the index as it begins: 512 empty places
abbrev pub empty_index : List ℕ
empty_index = replicate 512 65535

-- how many steps up it is from the place a to the place b, 511 to 0
unfoldable pub dist : ℕ → ℕ → ℕ
dist a b = (b + (512 - a)) % 512

-- where the search for the member number m starts
unfoldable pub home : ℕ → ℕ
home m = hash_of m % 512

-- The index t holds exactly the member places of the list ks, of members whose numbers stand in keys: each stands in one of its places only,
-- the search finds it there, and no other number stands in any. `has` and `once` are "each stands in one of its places only"; `reach` and
-- `distinct` are "the search finds it there", since the search can stop before a member's place only at an empty place or at an equal
-- number; `only` is "no other number stands in any". `size`, `few` and `place` say that t has 512 places and ks at most 256 member places.
-- That the search finds each there is proved as `found_there` (proofs/Laws.antt).
pub record Holds (t keys ks : List ℕ) : Type 0 where
  pub size : length t ≡ 512
  pub few : length ks ≤ 256
  -- the list has member places
  pub place : (k : ℕ) → Memᴰ k ks → k < 256
  -- no two of them have one member number
  pub distinct : (j k : ℕ) → Memᴰ j ks → Memᴰ k ks → get_or keys j 0 ≡ get_or keys k 0 → j ≡ k
  -- each of them stands in the index
  pub has : (k : ℕ) → Memᴰ k ks → (p : ℕ) × (p < 512) × (get_or t p 0 ≡ k)
  -- in one place only
  pub once : (p q : ℕ) → p < 512 → q < 512 → get_or t p 0 < 256 → get_or t p 0 ≡ get_or t q 0 → p ≡ q
  -- a place that is not empty holds one of them
  pub only : (p : ℕ) → p < 512 → (get_or t p 0 ≡ 65535) ⊎ Memᴰ (get_or t p 0) ks
  -- from the start of a member's search up to its place, no place is empty
  pub reach : (p q : ℕ) → p < 512 → q < 512 → get_or t p 0 < 256
      → dist (home (get_or keys (get_or t p 0) 0)) q ≤ dist (home (get_or keys (get_or t p 0) 0)) p → get_or t q 0 < 256

-- the place p is the first empty one from the start of m's search
pub record Vacant (t : List ℕ) (m p : ℕ) : Type 0 where
  pub inside : p < 512
  pub empty : 256 ≤ get_or t p 0
  pub first : (q : ℕ) → q < 512 → dist (home m) q < dist (home m) p → get_or t q 0 < 256

-- x in front of xs where the test says no
abbrev pub unless : Bool → ℕ → List ℕ → List ℕ
unless true x xs = xs
unless false x xs = x ∷ xs

-- ks without k
unfoldable pub without : ℕ → List ℕ → List ℕ
without k [] = []
without k (x ∷ xs) = unless (eqb x k) x (without k xs)
