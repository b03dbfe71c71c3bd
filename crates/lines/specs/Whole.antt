-- What the calls program prints for an input that comes in chunks; and an example.
use Rattle.std.specs.Prelude.{ℕ, cond, List, [], ◌∷◌, ◌++◌, eqb}
use Rattle.steps.specs.State.{State}
use Rattle.parsing.specs.Line.{onto}
use Rattle.lines.specs.Output.{output_of, after}
use Rattle.lines.specs.Chunk.{ended, rest, front, last_of}

-- the lines of an input: what stands before each line end; and what stands after the last, if there is any
unfoldable pub lines_of : List ℕ → List (List ℕ)
lines_of [] = []
lines_of (b ∷ bs) = cond (eqb b 10) ([] ∷ lines_of bs) (onto b (lines_of bs))

-- the chunks' bytes
abbrev pub joined : List (List ℕ) → List ℕ
joined [] = []
joined (c ∷ cs) = c ++ joined cs

-- what `answer_chunk` prints for each chunk, with what is held of the line before, and `answer_rest` at the end
unfoldable pub said : List (List ℕ) → List ℕ → State → List ℕ
said [] h s = output_of (last_of h) s
said (c ∷ cs) h s = output_of (ended h c) s ++ said cs (front (rest h c)) (after (ended h c) s)

-- a 7 10, a 9 20, a 7 11, i 7 12, l, m, b, k 0, l
abbrev pub example_input : List ℕ
example_input =
    97 ∷ 32 ∷ 55 ∷ 32 ∷ 49 ∷ 48 ∷ 10 ∷
    97 ∷ 32 ∷ 57 ∷ 32 ∷ 50 ∷ 48 ∷ 10 ∷
    97 ∷ 32 ∷ 55 ∷ 32 ∷ 49 ∷ 49 ∷ 10 ∷
    105 ∷ 32 ∷ 55 ∷ 32 ∷ 49 ∷ 50 ∷ 10 ∷
    108 ∷ 10 ∷
    109 ∷ 10 ∷
    98 ∷ 10 ∷
    107 ∷ 32 ∷ 48 ∷ 10 ∷
    108 ∷ 10 ∷ []

-- new, new, present, old 2 10 11, list 9:20 7:12, keys 7 9, pop 7 12 gone, kept 0, list
abbrev pub example_output : List ℕ
example_output =
    110 ∷ 101 ∷ 119 ∷ 10 ∷
    110 ∷ 101 ∷ 119 ∷ 10 ∷
    112 ∷ 114 ∷ 101 ∷ 115 ∷ 101 ∷ 110 ∷ 116 ∷ 10 ∷
    111 ∷ 108 ∷ 100 ∷ 32 ∷ 50 ∷ 32 ∷ 49 ∷ 48 ∷ 32 ∷ 49 ∷ 49 ∷ 10 ∷
    108 ∷ 105 ∷ 115 ∷ 116 ∷ 32 ∷ 57 ∷ 58 ∷ 50 ∷ 48 ∷ 32 ∷ 55 ∷ 58 ∷ 49 ∷ 50 ∷ 10 ∷
    107 ∷ 101 ∷ 121 ∷ 115 ∷ 32 ∷ 55 ∷ 32 ∷ 57 ∷ 10 ∷
    112 ∷ 111 ∷ 112 ∷ 32 ∷ 55 ∷ 32 ∷ 49 ∷ 50 ∷ 32 ∷ 103 ∷ 111 ∷ 110 ∷ 101 ∷ 10 ∷
    107 ∷ 101 ∷ 112 ∷ 116 ∷ 32 ∷ 48 ∷ 10 ∷
    108 ∷ 105 ∷ 115 ∷ 116 ∷ 10 ∷ []
