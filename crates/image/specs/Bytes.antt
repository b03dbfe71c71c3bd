-- Numbers as bytes, lowest first.
use Rattle.std.specs.Prelude.{ℕ, zero, suc, ◌+◌, ◌*◌, ◌^◌, ◌<◌, List, [], ◌∷◌, ◌++◌, get_or, drop}
use Rattle.fnv.specs.Fnv.{bytes}
use Rattle.steps.specs.State.{Pair}

-- an array of numbers: eight bytes each
abbrev pub array : List ℕ → List ℕ
array [] = []
array (x ∷ xs) = bytes 8 x ++ array xs

-- the sizes n and m, in four bytes each, and two arrays
abbrev pub layout : ℕ → ℕ → List ℕ → List ℕ → List ℕ
layout n m members rounds = bytes 4 n ++ (bytes 4 m ++ (array members ++ array rounds))

-- the number in the first w bytes
unfoldable pub number : ℕ → List ℕ → ℕ
number zero s = 0
number (suc w) s = get_or s 0 0 + 256 * number w (drop 1 s)

-- the first n numbers of eight bytes
abbrev pub numbers : ℕ → List ℕ → List ℕ
numbers zero s = []
numbers (suc n) s = number 8 s ∷ numbers n (drop 8 s)

-- each of these is a byte
abbrev pub AllBytes : List ℕ → Type 0
AllBytes [] = Unit {0}
AllBytes (b ∷ bs) = (b < 256) × AllBytes bs

-- each of these is a pair of 64-bit numbers
abbrev pub Words : List Pair → Type 0
Words [] = Unit {0}
Words (p ∷ ps) = (p.key < 2 ^ 64) × (p.value < 2 ^ 64) × Words ps
