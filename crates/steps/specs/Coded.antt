-- An answer of document 01 as four numbers: which answer it is, and what it tells. No two answers have the same ones (theorem coded_injective,
-- proofs/Coded.antt).
use Rattle.std.specs.Prelude.{Bool, cond, List, [], ◌∷◌, ℕ, eqb, get_or}
use Rattle.steps.specs.Call.{Answer, refused, none, done, round, count, present, popped, occupied, vacant}

abbrev pub bit : Bool → ℕ
bit b = cond b 1 0

abbrev pub words : ℕ → ℕ → ℕ → ℕ → List ℕ
words a b c d = a ∷ b ∷ c ∷ d ∷ []

-- The four numbers of an answer.
abbrev pub coded : Answer → List ℕ
coded (refused n) = words 0 n 0 0
coded none = words 1 0 0 0
coded done = words 2 0 0 0
coded (round v) = words 3 v 0 0
coded (count n) = words 4 n 0 0
coded (present b) = words 5 (bit b) 0 0
coded (popped k v b) = words 6 k v (bit b)
coded (occupied n) = words 7 n 0 0
coded (vacant k) = words 8 k 0 0

-- The answer that four numbers tell; numbers of no answer tell none.
unfoldable pub decoded : List ℕ → Answer
decoded l =
    get_or
    (refused (get_or l 1 0)
    ∷ none
    ∷ done
    ∷ round (get_or l 1 0)
    ∷ count (get_or l 1 0)
    ∷ present (eqb (get_or l 1 0) 1)
    ∷ popped (get_or l 1 0) (get_or l 2 0) (eqb (get_or l 3 0) 1)
    ∷ occupied (get_or l 1 0)
    ∷ vacant (get_or l 1 0)
    ∷ [])
    (get_or l 0 0) none
