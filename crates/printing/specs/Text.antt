-- Numbers as text, in ASCII.
use Rattle.std.specs.Prelude.{ℕ, zero, suc, ◌+◌, ◌/◌, ◌%◌, cond, List, [], ◌∷◌, ◌++◌, ltb, flat_map, zip}

-- n in base ten, of at most so many digits
unfoldable pub decimal_of : ℕ → ℕ → List ℕ
decimal_of zero n = []
decimal_of (suc most) n = cond (ltb n 10) ((48 + n) ∷ []) (decimal_of most (n / 10) ++ ((48 + n % 10) ∷ []))

-- n in base ten, with no zero in front. A number below 2^64 has at most 20 digits
abbrev pub decimal : ℕ → List ℕ
decimal n = decimal_of 20 n

-- a space, and n
abbrev pub spaced : ℕ → List ℕ
spaced n = 32 ∷ decimal n

-- each number after a space
unfoldable pub values : List ℕ → List ℕ
values vs = flat_map spaced vs

-- a member and its round after a space, with a colon between
abbrev pub paired : ℕ × ℕ → List ℕ
paired p = spaced p.0 ++ (58 ∷ decimal p.1)

-- each member with its round
unfoldable pub pairs : List ℕ → List ℕ → List ℕ
pairs ks vs = flat_map paired (zip ks vs)
