-- What a caller of the index may rely on, of an index t that holds the member places ks. Here: found exactly when present, and where; where the
-- search starts; how many places it looks at. Elsewhere: `spare` (Table), that there always is an empty place; `few_looks` (Bound), that
-- a search looks at no more places than there are members, and one more; `added` (Adds), what `insert` gives; `says_at` and `says_absent`
-- (Finds), what each answer of a search says.
-- Assumes nothing.
use mathlib.Core.Path.{◌≡◌, refl, sym, ◌∙◌, ap}
use mathlib.Core.List.{List, Memᴰ}
use Prim.Native.Nat.{ℕ, ◌+◌, ◌%◌, ◌<◌}
use lib.ListN.{get_or}
use Rattle.fnv.specs.Fnv.{hash_of}
use Rattle.index.specs.declared.Found.{Found}
use Rattle.index.specs.declared.Found.TheVariants.{At, Absent}
use Rattle.index.specs.Table.{Holds, dist, home}
use Rattle.index.specs.Search.{look, search as searched, Says, is_found, looked_at, place_of}
use Rattle.index.specs.Agree.{Decides}
use Rattle.index.proofs.Finds.{says, says_at, says_absent}

-- the search starts at the hash modulo 512
pub starts : (t keys : List ℕ) (m : ℕ) → searched t keys m ≡ look 512 t keys m (hash_of m % 512) 0
unfolding searched home
starts t keys m = refl

module _ (t keys ks : List ℕ) (h : Holds t keys ks) where
  -- a search finds something exactly when one of the members has that number
  pub found_exactly : (m : ℕ) → Decides (is_found (searched t keys m)) ((k : ℕ) × Memᴰ k ks × (get_or keys k 0 ≡ m))
  unfolding is_found
  found_exactly m = go (searched t keys m) refl
    where
      go : (r : Found) → searched t keys m ≡ r → Decides (is_found r) ((k : ℕ) × Memᴰ k ks × (get_or keys k 0 ≡ m))
      go (At p k n) e = let w = says_at t keys ks m h p n k e in (k, w.2, w.3)
      go (Absent p n) e = λ w. (says_absent t keys ks m h p n e).1 w.0 w.1 w.2

  -- a member that is present is found under its member place, in the one place that holds it
  pub found_there : (k p : ℕ) → Memᴰ k ks → p < 512 → get_or t p 0 ≡ k
      → searched t keys (get_or keys k 0) ≡ At p k (dist (home (get_or keys k 0)) p + 1)
  found_there k p i lp ep = go (searched t keys (get_or keys k 0)) refl
    where
      go : (r : Found) → searched t keys (get_or keys k 0) ≡ r → r ≡ At p k (dist (home (get_or keys k 0)) p + 1)
      go (At q l n) e =
          let w = says_at t keys ks (get_or keys k 0) h q n l e in
          let el : l ≡ k = h.distinct l k w.2 i w.3 in
          let eq : q ≡ p = h.once q p w.0 lp (rw w.1 (h.place l w.2)) (w.1 ∙ el ∙ sym ep) in
          let en : n ≡ dist (home (get_or keys k 0)) p + 1 = w.4 ∙ ap (λ (x : ℕ). dist (home (get_or keys k 0)) x + 1) eq in
          cc (el, eq, en)
      go (Absent q n) e = absurd ((says_absent t keys ks (get_or keys k 0) h q n e).1 k i refl)

  -- the number of places looked at is one more than the steps from the start to the last
  pub looks : (m : ℕ) → looked_at (searched t keys m) ≡ dist (home m) (place_of (searched t keys m)) + 1
  unfolding Says looked_at place_of
  looks m = go (searched t keys m) (says t keys ks m h)
    where
      go : (r : Found) → Says t keys ks m r → looked_at r ≡ dist (home m) (place_of r) + 1
      go (At p k n) w = w.4
      go (Absent p n) w = w.2
