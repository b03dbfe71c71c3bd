-- A text written to the front of a slice, with room for its line end after it.
use Rattle.std.specs.Prelude.{ℕ, ◌<◌, ◌≤◌, ◌≡◌, List, length}
use Rattle.printing.specs.Put.{Put}

-- the longest printed line, with its line end: `list` and 1,024 pairs of two numbers of 20 digits
abbrev pub max_printed : ℕ
max_printed = 43013

-- a slice that has room for any printed line
abbrev pub Roomy : List ℕ → Type 0
Roomy out = max_printed ≤ length out

pub record Said (was text out : List ℕ) (r : ℕ) : Type 0 where
  pub put : Put was 0 text out r
  pub room : r < max_printed

-- a slice without that room is left as it was, and nothing is said
pub record Unsaid (was out : List ℕ) (r : ℕ) : Type 0 where
  pub kept : out ≡ was
  pub none : r ≡ 0

-- the text is printed where there is room for any
pub record Prints (was text out : List ℕ) (r : ℕ) : Type 0 where
  pub said : Roomy was → Said was text out r
  pub unsaid : length was < max_printed → Unsaid was out r
