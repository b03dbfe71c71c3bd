-- What is written on a page.
use Rattle.std.specs.Prelude.{◌≡◌, ℕ, List}
use Rattle.parsing.specs.Split.{Held}
use Rattle.tapes.specs.declared.rows.Page.{Page}

-- the bytes are written after those that were, as far as there is room
pub record Kept (was : Page) (bytes : List ℕ) (now : Page) : Type 0 where
  pub same_slice : now.out.ghost_name ≡ was.out.ghost_name
  pub held : Held bytes was.out.now was.at now.out.now now.at
