-- A list of calls as text. It has seven parts, a semicolon after each: a name; the limits of members and of rounds; the numbers of the calls; what
-- the out slices hold; what the second ones hold; the marks; what the answers hold. Each run of digits is a number, and each digit is a mark. All other
-- bytes only separate.
use Rattle.std.specs.Prelude.{ℕ, ◌+◌, ◌*◌, ◌-◌, min, cond, List, [], ◌∷◌, ◌++◌, take, drop, map, filter, Option, Some, None, unwrap_or, option_to_list}
use Rattle.std.specs.Char.{is_ascii_digit}
use Rattle.parsing.specs.Split.{gap}

-- what stands before the first semicolon, and after it
abbrev pub part_of : List ℕ → List ℕ
part_of s = take (gap 59 s) s

abbrev pub rest_of : List ℕ → List ℕ
rest_of s = drop (gap 59 s + 1) s

-- what is left after the parts from the limits on
abbrev pub left_after : List ℕ → List ℕ
left_after s = rest_of (rest_of (rest_of (rest_of (rest_of (rest_of s)))))

-- the number that the digits before b come to, with b; 2^64 - 1 where it is larger
abbrev pub grown : ℕ → ℕ → ℕ
grown n b = min (10 * n + (b - 48)) 18446744073709551615

-- the numbers of a text, with the one that the digits before it come to, if there are any
unfoldable pub numbers_from : Option ℕ → List ℕ → List ℕ
numbers_from begun [] = option_to_list begun
numbers_from begun (b ∷ bs) =
    cond (is_ascii_digit b) (numbers_from (Some (grown (unwrap_or begun 0) b)) bs) (option_to_list begun ++ numbers_from None bs)

abbrev pub numbers_of : List ℕ → List ℕ
numbers_of s = numbers_from None s

unfoldable pub marks_of : List ℕ → List ℕ
marks_of s = map (λ b. b - 48) (filter is_ascii_digit s)
