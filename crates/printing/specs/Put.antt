-- Bytes written into a slice.
use Rattle.std.specs.Prelude.{ℕ, ◌+◌, ◌≤◌, ◌≡◌, List, length}
use Rattle.std.proofs.lemmas.List.Edits.{sets}
use Rattle.printing.specs.declared.putting.Writer.{Writer}

-- the bytes are written from the place `at` on, the others are kept, and r is the place after them
pub record Put (out₀ : List ℕ) (at : ℕ) (bytes : List ℕ) (out : List ℕ) (r : ℕ) : Type 0 where
  pub written : out ≡ sets out₀ at bytes
  pub next : r ≡ at + length bytes

-- the writer's slice has room for n bytes more
abbrev pub Room : ℕ → Writer → Type 0
Room n w = w.at + n ≤ length w.out.now

-- the bytes are written to the writer's slice, after those that it has written
pub record Wrote (was : Writer) (bytes : List ℕ) (now : Writer) : Type 0 where
  pub same_slice : now.out.ghost_name ≡ was.out.ghost_name
  pub put : Put was.out.now was.at bytes now.out.now now.at
