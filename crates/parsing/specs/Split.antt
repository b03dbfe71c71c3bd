-- What stands before the first of a byte, and what of a line is held.
use Rattle.std.specs.Prelude.{ℕ, suc, ◌≤◌, ◌≡◌, cond, List, [], ◌∷◌, ◌++◌, eqb, length, take, drop, Option, position, ◌==◌}

-- how many bytes stand before the first b; all, where there is none
unfoldable pub gap : ℕ → List ℕ → ℕ
gap b [] = 0
gap b (x ∷ xs) = cond (eqb x b) 0 (suc (gap b xs))

-- where the first b stands
abbrev pub find : ℕ → List ℕ → Option ℕ
find b xs = position (λ x. x == b) xs

-- after the first `held` values of `was` the values are held, in `line`, as far as it is long. r counts the values held then, and those past
-- them are kept
pub record Held {A : Type 0} (values was : List A) (held : ℕ) (line : List A) (r : ℕ) : Type 0 where
  pub front : take r line ≡ take (length was) (take held was ++ values)
  pub past : drop r line ≡ drop r was
  pub within : r ≤ length line
  pub long : length line ≡ length was
