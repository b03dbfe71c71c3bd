-- The ten marked cases of document 01 hold of the steps: one theorem over the table, and each row by its place.
use mathlib.Core.Path.{◌≡◌, refl}
use mathlib.Core.List.{List, [], ◌∷◌, map}
use Prim.Native.Nat.{ℕ, zero, suc, ◌<◌}
use native.Mathlib.Nat.{not-suc-le-zero, le_of_suc-le-suc}
use lib.ListN.{length, get_or}
use Rattle.steps.specs.Step.{step, checks, act}
use Rattle.steps.specs.Marked.{Row, table, given, wanted}

-- lists that two functions map alike: the functions agree at each entry
at : {A B : Type 0} (f g : A → B) (l : List A) (d : A) → map f l ≡ map g l → (i : ℕ) → i < length l → f (get_or l i d) ≡ g (get_or l i d)
at f g [] d e i h = absurd (not-suc-le-zero h)
at f g (x ∷ xs) d e zero h = cc
at f g (x ∷ xs) d e (suc i) h = at f g xs d (cc) i (le_of_suc-le-suc h)

pub marked : map given table ≡ map wanted table
unfolding step act checks
marked = refl

-- each row, by its place from 0
pub marked_at : (d : Row) (i : ℕ) → i < 10 → given (get_or table i d) ≡ wanted (get_or table i d)
marked_at d i h = at given wanted table d marked i h
