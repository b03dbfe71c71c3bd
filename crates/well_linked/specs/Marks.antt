-- Places marked in an array of bools as a list of places is walked. Assumes nothing.
use Rattle.std.specs.Prelude.{ℕ, ◌+◌, ◌≤◌, ◌<◌, ◌≡◌, Bool, true, false, List, get_or}
use Rattle.index.specs.Agree.{Decides}
use Rattle.links.specs.Route.{bit, tally}
use Rattle.links.specs.Places.{Places}
use Rattle.links.specs.declared.Counts.{Counts}

-- of places with a number each: the number of the place that stands at q, of the place 0 past the end
abbrev pub place_at : {P : Type 0} → (number : P → ℕ) (of : ℕ → P) → List P → ℕ → ℕ
place_at number of t q = number (get_or t q (of 0))

-- a list of such places, whose links are arrays
abbrev pub list_of : {P : Type 0} → (number : P → ℕ) (of : ℕ → P) → (next previous : List P) → P → Counts → Places
list_of number of next previous root counts =
    record {
      next = place_at number of next;
      prev = place_at number of previous;
      root = number root;
      len = counts.len;
      fresh = counts.fresh;
      free = number (of counts.free);
    }

-- 1 where the place q is marked, else 0
abbrev pub marks : List Bool → ℕ → ℕ
marks met q = bit (get_or met q false)

-- the places of xs are below f, none is marked, and none stands twice
pub record New (f : ℕ) (met : List Bool) (xs : List ℕ) : Type 0 where
  pub once : (q : ℕ) → marks met q + tally q xs ≤ 1
  pub below : (q : ℕ) → 0 < tally q xs → q < f

-- r says whether the places of xs are new; if so, met' has them marked besides those of met
pub record Marks (f : ℕ) (xs : List ℕ) (met met' : List Bool) (r : Bool) : Type 0 where
  pub decided : Decides r (New f met xs)
  pub marked : r ≡ true → (q : ℕ) → marks met' q ≡ marks met q + tally q xs
