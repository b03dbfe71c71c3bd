-- What is taken of a chunk of the input up to its first line end, and held.
use Rattle.std.specs.Prelude.{ℕ, ◌+◌, ◌<◌, ◌≡◌, List, length, take, Option, Some, None}
use Rattle.parsing.specs.Split.{gap, Held}
use Rattle.lines.specs.declared.Unfinished.{Unfinished}

-- the chunk's bytes before its first line end are held, and so many bytes of the chunk are used, the line end too
pub record Ends (chunk : List ℕ) (was line : Unfinished) (u : ℕ) : Type 0 where
  pub holds : Held (take (gap 10 chunk) chunk) was.bytes was.held line.bytes line.held
  pub within : gap 10 chunk < length chunk
  pub used : u ≡ gap 10 chunk + 1

-- the chunk has no line end, and is held whole
pub record GoesOn (chunk : List ℕ) (was line : Unfinished) : Type 0 where
  pub holds : Held chunk was.bytes was.held line.bytes line.held
  pub whole : gap 10 chunk ≡ length chunk

abbrev pub Took : List ℕ → Unfinished → Unfinished → Option ℕ → Type 0
Took chunk was line (Some used) = Ends chunk was line used
Took chunk was line None = GoesOn chunk was line
