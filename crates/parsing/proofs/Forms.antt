-- What a line asks, by its letter and its fields. Assumes nothing.
use Prim.Native.Nat.{ℕ, suc, ◌+◌, ◌-◌, ◌≤◌, ◌<◌}
use mathlib.Core.Path.{◌≡◌, refl, sym, ap, ◌∙◌}
use mathlib.Core.Bool.{Bool, true, false, cond, ◌&&◌, and-false}
use mathlib.Core.Logic.{⊎_elim}
use mathlib.Core.List.{List, [], ◌∷◌}
use Rattle.std.specs.Prelude.{Option, Some, None}
use Rattle.std.specs.Char.{is_ascii_digit}
use Rattle.std.specs.List.{list_all}
use native.Mathlib.Omega.{arith}
use native.Mathlib.Numerals.{add-one}
use borrow.Author.Tests.{ne_eqb, eqb-true, eqb-false, le-leb, lt-leb}
use native.Mathlib.Nat.{eq-or-lt_of_le}
use lib.Dec.{eqb, leb}
use lib.Seq.{take-length, take_all}
use lib.ListN.{length, get_or, take, drop, length-drop}
use Rattle.parsing.specs.Line.{adds, inserts, bad, number_of, onto, fields, alone, with_one, with_two, of_numbers, fielded, form_of, line_of}
use Rattle.parsing.specs.Split.{gap, find}
use Rattle.parsing.proofs.Gaps.{gap_le, found, not_found}

same : {A : Type 0} (a b : Bool) (x : A) → x ≡ cond a x (cond b x x)
same true b x = refl
same false true x = refl
same false false x = refl

neither : (n : Option ℕ) (a b : Bool) → bad ≡ cond a (of_numbers adds n None) (cond b (of_numbers inserts n None) bad)
neither None a b = same a b bad
neither (Some k) a b = same a b bad

no_second : (c : ℕ) (x y : List ℕ) → None ≡ number_of y → with_two c x y ≡ bad
no_second c x y n = rw (← n) (sym (neither (number_of x) (eqb c 97) (eqb c 105)))

-- ---- fields

no_space : (b : ℕ) (bs : List ℕ) (t : Bool) → cond t 0 (suc (gap 32 bs)) ≡ suc (length bs) → (gap 32 bs ≡ length bs → fields bs ≡ bs ∷ [])
    → cond t ([] ∷ fields bs) (onto b (fields bs)) ≡ (b ∷ bs) ∷ []
no_space b bs true e ih = absurd (omega arith)
no_space b bs false e ih = rw (ih (omega arith))

-- without a space the whole is a field
pub fields_none : (s : List ℕ) → gap 32 s ≡ length s → fields s ≡ s ∷ []
unfolding gap fields
fields_none [] e = refl
fields_none (b ∷ bs) e = no_space b bs (eqb b 32) e (fields_none bs)

a_space : (b : ℕ) (bs : List ℕ) (t : Bool) → cond t 0 (suc (gap 32 bs)) < suc (length bs)
    → (gap 32 bs < length bs → fields bs ≡ take (gap 32 bs) bs ∷ fields (drop (suc (gap 32 bs)) bs))
    → cond t ([] ∷ fields bs) (onto b (fields bs)) ≡ take (cond t 0 (suc (gap 32 bs))) (b ∷ bs) ∷ fields (drop (suc (cond t 0 (suc (gap 32 bs)))) (b ∷ bs))
a_space b bs true e ih = refl
a_space b bs false e ih = rw (ih (omega arith))

-- with one, a field stands before the first
pub fields_some : (s : List ℕ) → gap 32 s < length s → fields s ≡ take (gap 32 s) s ∷ fields (drop (suc (gap 32 s)) s)
unfolding gap fields
fields_some [] e = absurd (omega arith)
fields_some (b ∷ bs) e = a_space b bs (eqb b 32) e (fields_some bs)

digit_when : (b : ℕ) (bs : List ℕ) (t : Bool) → eqb b 32 ≡ t → cond t 0 (suc (gap 32 bs)) < suc (length bs)
    → (gap 32 bs < length bs → list_all is_ascii_digit bs ≡ false) → list_all is_ascii_digit (b ∷ bs) ≡ false
digit_when b bs true i e ih = let j = eqb-true b 32 i in rw (lt-leb 48 b (omega (arith, j)))
digit_when b bs false i e ih = ap (λ (t : Bool). is_ascii_digit b && t) (ih (omega arith)) ∙ and-false (is_ascii_digit b)

-- what has a space is no number
space_digits : (s : List ℕ) → gap 32 s < length s → list_all is_ascii_digit s ≡ false
unfolding gap
space_digits [] e = absurd (omega arith)
space_digits (b ∷ bs) e = digit_when b bs (eqb b 32) refl e (space_digits bs)

number_space : (s : List ℕ) → gap 32 s < length s → None ≡ number_of s
number_space [] e = refl
number_space (b ∷ bs) e = rw (space_digits (b ∷ bs) e)

-- ---- lines

pub less : (a b : ℕ) → a ≤ b → (a ≡ b → ⊥) → a < b
less a b h e = ⊎_elim (λ (i : a ≡ b). absurd (e i)) (λ (i : a < b). i) (eq-or-lt_of_le h)

-- two fields and more after a letter are no form
more_fields : (c : ℕ) (x y z : List ℕ) (t : Bool) → eqb (gap 32 z) (length z) ≡ t → fielded c (x ∷ (y ∷ fields z)) ≡ bad
more_fields c x y z true e = rw (fields_none z (eqb-true (gap 32 z) (length z) e))
more_fields c x y z false e = rw (fields_some z (less (gap 32 z) (length z) (gap_le 32 z) (eqb-false (gap 32 z) (length z) e)))

second_field : (c : ℕ) (x y : List ℕ) (t : Bool) → eqb (gap 32 y) (length y) ≡ t → with_two c x y ≡ fielded c (x ∷ fields y)
second_field c x y true e = rw (fields_none y (eqb-true (gap 32 y) (length y) e))
second_field c x y false e =
    let h = less (gap 32 y) (length y) (gap_le 32 y) (eqb-false (gap 32 y) (length y) e) in
    let z = drop (suc (gap 32 y)) y in
    no_second c x y (number_space y h) ∙ sym (more_fields c x (take (gap 32 y) y) z (eqb (gap 32 z) (length z)) refl) ∙ rw (fields_some y h)

-- the fields after a letter: one, or two
module _ (c : ℕ) (rest : List ℕ) where
  pub fields_one : find 32 rest ≡ None → with_one c rest ≡ fielded c (fields rest)
  fields_one e = rw (fields_none rest (not_found 32 rest e))

  pub fields_two : (n : ℕ) → find 32 rest ≡ Some n → with_two c (take n rest) (take (length rest - (n + 1)) (drop (n + 1) rest)) ≡ fielded c (fields rest)
  fields_two n e =
      let f = found 32 rest n e in
      let h : gap 32 rest < length rest = omega (arith, f.is, f.within) in
      ap (λ (y : List ℕ). with_two c (take n rest) y) (take_all (length rest - (n + 1)) (drop (n + 1) rest) (omega (arith, length-drop (n + 1) rest)))
      ∙ ap (λ (k : ℕ). with_two c (take k rest) (drop (k + 1) rest)) f.is
      ∙ rw (fields_some rest h, add-one (gap 32 rest))
      (second_field c (take (gap 32 rest) rest) (drop (suc (gap 32 rest)) rest) (eqb (gap 32 (drop (suc (gap 32 rest)) rest)) (length (drop (suc (gap 32 rest)) rest))) refl)

pub line_long : (l : List ℕ) → 1100 < length l → bad ≡ line_of l
unfolding line_of
line_long l h = rw (lt-leb (length l) 1100 h)

pub line_empty : (l : List ℕ) → length l ≡ 0 → bad ≡ line_of l
unfolding line_of fields
line_empty [] e = refl
line_empty (b ∷ bs) e = absurd (omega arith)

alone_when : (c : ℕ) (t : Bool) → eqb c 32 ≡ t → alone c ≡ form_of (cond t ([] ∷ ([] ∷ [])) ((c ∷ []) ∷ []))
alone_when c true e = ap alone (eqb-true c 32 e)
alone_when c false e = refl

pub line_alone : (c : ℕ) → alone c ≡ line_of (c ∷ [])
unfolding line_of fields
line_alone c = alone_when c (eqb c 32) refl

pub single : (l : List ℕ) → length l ≡ 1 → l ≡ get_or l 0 0 ∷ []
single [] e = absurd (omega arith)
single (c ∷ []) e = refl
single (c ∷ (d ∷ l)) e = absurd (omega arith)

onto_two : (c d : ℕ) (fs : List (List ℕ)) → bad ≡ form_of (onto c (onto d fs))
onto_two c d [] = refl
onto_two c d (f ∷ fs) = refl

second_when : (c d : ℕ) (l : List ℕ) (t u : Bool) → bad ≡ cond t (form_of (cond u ([] ∷ onto d (fields l)) (onto c (onto d (fields l))))) bad
second_when c d l true true = refl
second_when c d l true false = onto_two c d (fields l)
second_when c d l false u = refl

pub line_second : (l : List ℕ) → 1 < length l → (get_or l 1 0 ≡ 32 → ⊥) → bad ≡ line_of l
unfolding line_of fields
line_second [] h e = refl
line_second (c ∷ []) h e = absurd (omega arith)
line_second (c ∷ (d ∷ l)) h e = rw (ne_eqb d 32 e) (second_when c d l (leb (suc (suc (length l))) 1100) (eqb c 32))

-- a space is no letter
no_letter : (fs : List (List ℕ)) → fielded 32 fs ≡ bad
no_letter [] = refl
no_letter (x ∷ []) = refl
no_letter (x ∷ (y ∷ [])) = refl
no_letter (x ∷ (y ∷ (z ∷ fs))) = refl

fields_when : (c : ℕ) (fs : List (List ℕ)) (t : Bool) → eqb c 32 ≡ t → fielded c fs ≡ form_of (cond t ([] ∷ ([] ∷ fs)) ((c ∷ []) ∷ fs))
fields_when c fs true e = ap (λ (n : ℕ). fielded n fs) (eqb-true c 32 e) ∙ no_letter fs
fields_when c fs false e = refl

pub line_fields : (c : ℕ) (rest : List ℕ) → length (c ∷ (32 ∷ rest)) ≤ 1100 → fielded c (fields rest) ≡ line_of (c ∷ (32 ∷ rest))
unfolding line_of fields
line_fields c rest h = rw (le-leb (suc (suc (length rest))) 1100 h) (fields_when c (fields rest) (eqb c 32) refl)

pub letter_space : (l : List ℕ) → 1 < length l → get_or l 1 0 ≡ 32 → l ≡ get_or l 0 0 ∷ (32 ∷ take (length l - 2) (drop 2 l))
letter_space [] h e = absurd (omega arith)
letter_space (c ∷ []) h e = absurd (omega arith)
letter_space (c ∷ (d ∷ l)) h e =
    let n : suc (suc (length l)) - 2 ≡ length l = omega arith in
    ap (λ (b : ℕ). c ∷ (b ∷ l)) e ∙ ap (λ (r : List ℕ). c ∷ (32 ∷ r)) (sym (ap (λ (k : ℕ). take k l) n ∙ take-length l))
