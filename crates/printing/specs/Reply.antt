-- How an answer is printed.
use Rattle.std.specs.Prelude.{ℕ, cond, List, [], ◌∷◌, ◌++◌, take}
use Rattle.steps.specs.Call.{Answer, Lent, refused, none, done, round, count, present, popped, occupied, vacant}
use Rattle.printing.specs.Text.{spaced, values, pairs}

-- refused, new, present, old, pop, gone, stays, none, kept, list, keys, line?
abbrev pub refused_text : List ℕ
refused_text = 114 ∷ 101 ∷ 102 ∷ 117 ∷ 115 ∷ 101 ∷ 100 ∷ []

abbrev pub new_text : List ℕ
new_text = 110 ∷ 101 ∷ 119 ∷ []

abbrev pub present_text : List ℕ
present_text = 112 ∷ 114 ∷ 101 ∷ 115 ∷ 101 ∷ 110 ∷ 116 ∷ []

abbrev pub old_text : List ℕ
old_text = 111 ∷ 108 ∷ 100 ∷ []

abbrev pub pop_text : List ℕ
pop_text = 112 ∷ 111 ∷ 112 ∷ []

abbrev pub gone_text : List ℕ
gone_text = 32 ∷ 103 ∷ 111 ∷ 110 ∷ 101 ∷ []

abbrev pub stays_text : List ℕ
stays_text = 32 ∷ 115 ∷ 116 ∷ 97 ∷ 121 ∷ 115 ∷ []

abbrev pub none_text : List ℕ
none_text = 110 ∷ 111 ∷ 110 ∷ 101 ∷ []

abbrev pub kept_text : List ℕ
kept_text = 107 ∷ 101 ∷ 112 ∷ 116 ∷ []

abbrev pub list_text : List ℕ
list_text = 108 ∷ 105 ∷ 115 ∷ 116 ∷ []

abbrev pub keys_text : List ℕ
keys_text = 107 ∷ 101 ∷ 121 ∷ 115 ∷ []

abbrev pub bad_text : List ℕ
bad_text = 108 ∷ 105 ∷ 110 ∷ 101 ∷ 63 ∷ []

-- how a count is printed, with what was written to the lent slices: by the lines i and r, k, l, m
abbrev pub old : Lent → ℕ → List ℕ
old l n = old_text ++ (spaced n ++ values (take n l.out))

abbrev pub kept : Lent → ℕ → List ℕ
kept l n = kept_text ++ spaced n

abbrev pub listed : Lent → ℕ → List ℕ
listed l n = list_text ++ pairs (take n l.out) (take n l.out2)

abbrev pub keyed : Lent → ℕ → List ℕ
keyed l n = keys_text ++ values (take n l.out)

-- how an answer is printed. The last four are none of a line's
abbrev pub text_of : (ℕ → List ℕ) → Answer → List ℕ
text_of counted (refused n) = refused_text ++ spaced n
text_of counted none = none_text
text_of counted (present was) = cond was present_text new_text
text_of counted (popped k v gone) = pop_text ++ (spaced k ++ (spaced v ++ cond gone gone_text stays_text))
text_of counted (count n) = counted n
text_of counted done = []
text_of counted (round v) = []
text_of counted (occupied n) = []
text_of counted (vacant k) = []
