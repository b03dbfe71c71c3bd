-- The input of the calls program in chunks: the lines that end in one, what is held after it, and how far the answers go.
use Rattle.std.specs.Prelude.{ℕ, ◌+◌, ◌<◌, ◌≤◌, ◌≡◌, cond, List, [], ◌∷◌, ◌++◌, eqb, length, take}
use Rattle.multimap.specs.declared.ListOrderedMultimap.{ListOrderedMultimap}
use Rattle.printing.specs.Said.{Roomy, max_printed}
use Rattle.one_line.specs.Answers.{Unanswered}
use Rattle.lines.specs.Output.{Outputs}
use Rattle.lines.specs.declared.Progress.{Progress}
use Rattle.lines.specs.declared.Unfinished.{Unfinished}

-- what of a line is held: its front, of as many bytes as are needed to see that it is too long
abbrev pub front : List ℕ → List ℕ
front l = take 1101 l

-- the bytes that are held of an unfinished line
abbrev pub held_of : Unfinished → List ℕ
held_of u = take u.held u.bytes

-- what stands after the last line end is a line, if there is any
abbrev pub last_of : List ℕ → List (List ℕ)
last_of [] = []
last_of (b ∷ bs) = (b ∷ bs) ∷ []

-- the lines that end in a chunk, where h stands before it since the last line end
unfoldable pub ended : List ℕ → List ℕ → List (List ℕ)
ended h [] = []
ended h (b ∷ bs) = cond (eqb b 10) (h ∷ ended [] bs) (ended (h ++ (b ∷ [])) bs)

-- what stands after the last line end then
unfoldable pub rest : List ℕ → List ℕ → List ℕ
rest h [] = h
rest h (b ∷ bs) = cond (eqb b 10) (rest [] bs) (rest (h ++ (b ∷ [])) bs)

-- after h the chunk c is answered, and h' is held
pub record Chunked (h c : List ℕ) (m : ListOrderedMultimap) (was out : List ℕ) (m' : ListOrderedMultimap) (used : ℕ) (h' : List ℕ) : Type 0 where
  pub outputs : Outputs (ended h c) m was out m' used
  pub held : h' ≡ front (rest h c)

-- so much of the chunk is answered, and held' is held then: all of it, unless the room left is less than any answer may want, and some of it
-- where there is room for an answer
pub record AnswersChunk (chunk held : List ℕ) (m : ListOrderedMultimap) (was out : List ℕ) (m' : ListOrderedMultimap) (held' : List ℕ) (r : Progress) : Type 0 where
  pub chunked : Chunked held (take r.eaten chunk) m was out m' r.used held'
  pub within : r.eaten ≤ length chunk
  pub far : r.used + max_printed ≤ length was → r.eaten ≡ length chunk
  pub some : Roomy was → 0 < length chunk → 0 < r.eaten

-- the input has ended: what is held is the last line, if there is any. It is answered where there is room for any answer
pub record AnswersRest (held : List ℕ) (m : ListOrderedMultimap) (was out : List ℕ) (m' : ListOrderedMultimap) (n : ℕ) : Type 0 where
  pub answered : Roomy was → Outputs (last_of held) m was out m' n
  pub unanswered : length was < max_printed → Unanswered m was out m' n
