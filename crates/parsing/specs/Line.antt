-- What a line of the calls program asks.
use Rattle.std.specs.Prelude.{ℕ, ◌+◌, ◌*◌, ◌-◌, ◌^◌, Bool, cond, ◌&&◌, ◌||◌, List, [], ◌∷◌, map, eqb, leb, ltb, length, Option, Some, None}
use Rattle.std.specs.Char.{is_ascii_digit}
use Rattle.std.specs.List.{list_all}

pub data Line : Type 0 where
  -- a k v
  adds : (k v : ℕ) → Line
  -- i k v
  inserts : (k v : ℕ) → Line
  -- r k
  removes : (k : ℕ) → Line
  -- f
  front : Line
  -- b
  back : Line
  -- k and marks
  keeps : (marks : List ℕ) → Line
  -- l
  lists : Line
  -- m
  members : Line
  -- any other
  bad : Line

-- the longest line, without its line end
abbrev pub max_line : ℕ
max_line = 1100

-- what digits come to, after others that come to n
abbrev pub value_of : ℕ → List ℕ → ℕ
value_of n [] = n
value_of n (b ∷ bs) = value_of (10 * n + (b - 48)) bs

-- digits with a value below 2^64, after others that come to n
abbrev pub number_from : ℕ → List ℕ → Option ℕ
number_from n bs = cond (list_all is_ascii_digit bs && ltb (value_of n bs) (2 ^ 64)) (Some (value_of n bs)) None

-- a number: one or more digits with a value below 2^64
abbrev pub number_of : List ℕ → Option ℕ
number_of [] = None
number_of (b ∷ bs) = number_from 0 (b ∷ bs)

-- the characters 0 and 1
abbrev pub is_mark : ℕ → Bool
is_mark b = eqb b 48 || eqb b 49

abbrev pub mark_of : ℕ → ℕ
mark_of b = cond (eqb b 49) 1 0

-- a byte more in front of the first field
abbrev pub onto : ℕ → List (List ℕ) → List (List ℕ)
onto b [] = (b ∷ []) ∷ []
onto b (f ∷ fs) = (b ∷ f) ∷ fs

-- the fields of a line: what stands before, between and after its spaces
unfoldable pub fields : List ℕ → List (List ℕ)
fields [] = [] ∷ []
fields (b ∷ bs) = cond (eqb b 32) ([] ∷ fields bs) (onto b (fields bs))

-- the line that a number asks, and two
abbrev pub of_number : (ℕ → Line) → Option ℕ → Line
of_number f None = bad
of_number f (Some k) = f k

abbrev pub of_numbers : (ℕ → ℕ → Line) → Option ℕ → Option ℕ → Line
of_numbers f None n = bad
of_numbers f (Some k) None = bad
of_numbers f (Some k) (Some v) = f k v

-- one or more marks
abbrev pub marked : List ℕ → Line
marked [] = bad
marked (b ∷ bs) = cond (list_all is_mark (b ∷ bs)) (keeps (map mark_of (b ∷ bs))) bad

-- a line of a letter alone: f, b, l, m, k
abbrev pub alone : ℕ → Line
alone c = cond (eqb c 102) front (cond (eqb c 98) back (cond (eqb c 108) lists (cond (eqb c 109) members (cond (eqb c 107) (keeps []) bad))))

-- a letter and a field: r, k
abbrev pub with_one : ℕ → List ℕ → Line
with_one c x = cond (eqb c 114) (of_number removes (number_of x)) (cond (eqb c 107) (marked x) bad)

-- a letter and two fields: a, i
abbrev pub with_two : ℕ → List ℕ → List ℕ → Line
with_two c x y =
    cond (eqb c 97) (of_numbers adds (number_of x) (number_of y)) (cond (eqb c 105) (of_numbers inserts (number_of x) (number_of y)) bad)

-- a letter and its fields
abbrev pub fielded : ℕ → List (List ℕ) → Line
fielded c [] = alone c
fielded c (x ∷ []) = with_one c x
fielded c (x ∷ (y ∷ [])) = with_two c x y
fielded c (x ∷ (y ∷ (z ∷ fs))) = bad

-- a line by its fields: the first is a letter
abbrev pub lettered : List ℕ → List (List ℕ) → Line
lettered [] fs = bad
lettered (c ∷ []) fs = fielded c fs
lettered (c ∷ (d ∷ f)) fs = bad

abbrev pub form_of : List (List ℕ) → Line
form_of [] = bad
form_of (f ∷ fs) = lettered f fs

-- what a line asks
unfoldable pub line_of : List ℕ → Line
line_of l = cond (leb (length l) max_line) (form_of (fields l)) bad
