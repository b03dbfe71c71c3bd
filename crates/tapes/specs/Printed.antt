-- What is printed of a list of calls: its name, how many calls were run, and what the answers and the lent slices hold after them.
use Rattle.std.specs.Prelude.{ℕ, zero, suc, ◌+◌, ◌%◌, cond, List, [], ◌∷◌, ◌++◌, eqb, ltb, length, take, get_or}
use Rattle.steps.specs.State.{Limits, limit}
use Rattle.steps.specs.Call.{Call}
use Rattle.steps.specs.Step.{outcomes, over, make_of}
use Rattle.replay.specs.Tape.{decode, outs_of, outs2_of, answers_of}
use Rattle.parsing.specs.Split.{gap}
use Rattle.printing.specs.Text.{decimal, spaced}
use Rattle.tapes.specs.Parts.{part_of, rest_of, left_after, numbers_of, marks_of}

-- ' ran', and a line each: 'outs', 'outs2'
abbrev pub ran_text : List ℕ
ran_text = 32 ∷ 114 ∷ 97 ∷ 110 ∷ []

abbrev pub outs_text : List ℕ
outs_text = 10 ∷ 111 ∷ 117 ∷ 116 ∷ 115 ∷ []

abbrev pub outs2_text : List ℕ
outs2_text = 10 ∷ 111 ∷ 117 ∷ 116 ∷ 115 ∷ 50 ∷ []

-- a line end before the first of each `width` numbers, a space before the others
abbrev pub separator : ℕ → ℕ → ℕ
separator width i = cond (eqb (i % width) 0) 10 32

-- lines of `width` numbers; the first is number i
unfoldable pub rows : ℕ → ℕ → List ℕ → List ℕ
rows width i [] = []
rows width i (v ∷ vs) = (separator width i ∷ decimal v) ++ rows width (i + 1) vs

-- how many calls were run, and what the answers and the slices hold
unfoldable pub left_text : ℕ → List ℕ → List ℕ → List ℕ → List ℕ
left_text n ans outs outs2 =
    ran_text ++ (spaced n ++ (rows 4 0 ans ++ (outs_text ++ (rows 16 0 outs ++ (outs2_text ++ (rows 16 0 outs2 ++ (10 ∷ [])))))))

-- the same after the calls, by the steps, on the new map with the limits l, of slices that held this before
abbrev pub ran_of : Limits → List Call → List ℕ → List ℕ → List ℕ → List ℕ
ran_of l cs outs outs2 ans =
    left_text
    (length cs)
    (over (answers_of (outcomes cs (make_of l).1)) ans)
    (over (outs_of (outcomes cs (make_of l).1)) outs)
    (over (outs2_of (outcomes cs (make_of l).1)) outs2)

abbrev pub run_text : Limits → List ℕ → List ℕ → List ℕ → List ℕ → List ℕ → List ℕ
run_text l calls outs outs2 marks ans = ran_of l (decode calls outs outs2 marks (length ans)) outs outs2 ans

-- the limits of members and of rounds: the first two numbers, 0 where there is none
abbrev pub limits_in : List ℕ → Limits
limits_in ns = limit (get_or ns 0 0) (get_or ns 1 0)

-- the parts of a text from the limits on. What is past 8,192 calls, as many of their answers, and 8,192 of each other kind is left out
abbrev pub parts_text : List ℕ → List ℕ
parts_text s =
    run_text
    (limits_in (numbers_of (part_of s)))
    (take 57344 (numbers_of (part_of (rest_of s))))
    (take 8192 (numbers_of (part_of (rest_of (rest_of s)))))
    (take 8192 (numbers_of (part_of (rest_of (rest_of (rest_of s))))))
    (take 8192 (marks_of (part_of (rest_of (rest_of (rest_of (rest_of s)))))))
    (take 32768 (numbers_of (part_of (rest_of (rest_of (rest_of (rest_of (rest_of s))))))))

-- what is left of a text after its first list
abbrev pub lists_after : List ℕ → List ℕ
lists_after s = left_after (rest_of s)

-- what is printed of the first list of a text: nothing, where no semicolon is left
abbrev pub list_text : List ℕ → List ℕ
list_text s = cond (ltb (gap 59 s) (length s)) (part_of s ++ parts_text (rest_of s)) []

-- what is printed of a text's first lists, so many of them
unfoldable pub first_lists : ℕ → List ℕ → List ℕ
first_lists zero s = []
first_lists (suc n) s = list_text s ++ first_lists n (lists_after s)

-- of all: they are not more than the bytes
abbrev pub lists_text : List ℕ → List ℕ
lists_text s = first_lists (length s) s
