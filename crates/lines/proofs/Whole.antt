-- An example of the calls program, by the definitions; and that an input, however it comes in chunks, is answered as a whole. Assumes
-- nothing.
use Prim.Native.Nat.{ℕ}
use mathlib.Core.Path.{◌≡◌, refl, sym, ap, ◌∙◌}
use mathlib.Core.Bool.{Bool, true, false, cond}
use mathlib.Core.List.{List, [], ◌∷◌, ◌++◌, append_assoc, append-nil}
use native.Mathlib.Omega.{arith}
use lib.Dec.{eqb}
use lib.ListN.{length}
use lib.Seq.{append_snoc}
use Rattle.steps.specs.State.{State, empty, highest}
use Rattle.steps.specs.Step.{step, checks, act}
use Rattle.parsing.specs.Line.{line_of, fields, onto}
use Rattle.printing.specs.Text.{decimal_of, values, pairs}
use Rattle.line_calls.specs.Answer.{answer_of}
use Rattle.lines.specs.Output.{output_of, after}
use Rattle.lines.specs.Chunk.{ended, rest, front, last_of}
use Rattle.lines.specs.Whole.{lines_of, joined, said, example_input, example_output}
use Rattle.lines.proofs.Outputs.{output_append, same_printed}
use Rattle.lines.proofs.Chunks.{chunk_append, alike, alike_output, alike_after, front_front}

pub example : output_of (lines_of example_input) (empty highest) ≡ example_output
unfolding output_of lines_of line_of fields answer_of step checks act decimal_of values pairs
example = refl

-- what is held of a line is printed like the line
same_last : (g h : List ℕ) (s : State) → front g ≡ front h → output_of (last_of g) s ≡ output_of (last_of h) s
same_last [] [] s e = refl
same_last [] (x ∷ h) s e = absurd (omega (arith, ap length e))
same_last (x ∷ g) [] s e = absurd (omega (arith, ap length e))
same_last (x ∷ g) (y ∷ h) s e = same_printed (x ∷ g) (y ∷ h) [] s e

same_said : (cs : List (List ℕ)) (g h : List ℕ) (s : State) → front g ≡ front h → said cs g s ≡ said cs h s
unfolding said
same_said [] g h s e = same_last g h s e
same_said (c ∷ cs) g h s e =
    let a = alike c g h e in
    ap (λ (o : List ℕ). o ++ said cs (front (rest g c)) (after (ended g c) s)) (alike_output s a.0)
    ∙ ap (λ (l : List ℕ). output_of (ended h c) s ++ said cs l (after (ended g c) s)) a.1
    ∙ ap (λ (t : State). output_of (ended h c) s ++ said cs (front (rest h c)) t) (alike_after s a.0)

said_lines : (cs : List (List ℕ)) (h : List ℕ) (s : State) → said cs h s ≡ output_of (ended h (joined cs) ++ last_of (rest h (joined cs))) s
unfolding said ended rest
said_lines [] h s = refl
said_lines (c ∷ cs) h s =
    let b = joined cs in
    let r = rest h c in
    let a = chunk_append c b h in
    ap (λ (o : List ℕ). output_of (ended h c) s ++ o) (same_said cs (front r) r (after (ended h c) s) (front_front r) ∙ said_lines cs r (after (ended h c) s))
    ∙ sym (output_append (ended h c) (ended r b ++ last_of (rest r b)) s)
    ∙ ap (λ (l : List (List ℕ)). output_of l s) (sym (append_assoc (ended h c) (ended r b) (last_of (rest r b))))
    ∙ ap (λ (l : List (List ℕ)). output_of (l ++ last_of (rest r b)) s) (sym a.0)
    ∙ ap (λ (l : List ℕ). output_of (ended h (c ++ b) ++ last_of l) s) (sym a.1)

-- lines, with h before the first
before : List ℕ → List (List ℕ) → List (List ℕ)
before h [] = last_of h
before h (l ∷ ls) = (h ++ l) ∷ ls

before_none : (ls : List (List ℕ)) → before [] ls ≡ ls
unfolding before
before_none [] = refl
before_none (l ∷ ls) = refl

last_snoc : (h : List ℕ) (b : ℕ) → last_of (h ++ (b ∷ [])) ≡ (h ++ (b ∷ [])) ∷ []
last_snoc [] b = refl
last_snoc (x ∷ h) b = refl

before_onto : (h : List ℕ) (b : ℕ) (ls : List (List ℕ)) → before (h ++ (b ∷ [])) ls ≡ before h (onto b ls)
unfolding before
before_onto h b [] = last_snoc h b
before_onto h b (l ∷ ls) = ap (λ (x : List ℕ). x ∷ ls) (append_snoc h b l)

split_when : (b : ℕ) (bs h : List ℕ) (t : Bool) → ((h : List ℕ) → ended h bs ++ last_of (rest h bs) ≡ before h (lines_of bs))
    → cond t (h ∷ ended [] bs) (ended (h ++ (b ∷ [])) bs) ++ last_of (cond t (rest [] bs) (rest (h ++ (b ∷ [])) bs)) ≡ before h (cond t ([] ∷ lines_of bs) (onto b (lines_of bs)))
unfolding before
split_when b bs h true ih = ap (λ (l : List (List ℕ)). h ∷ l) (ih [] ∙ before_none (lines_of bs)) ∙ ap (λ (x : List ℕ). x ∷ lines_of bs) (sym (append-nil h))
split_when b bs h false ih = ih (h ++ (b ∷ [])) ∙ before_onto h b (lines_of bs)

split : (bs h : List ℕ) → ended h bs ++ last_of (rest h bs) ≡ before h (lines_of bs)
unfolding ended rest lines_of before
split [] h = refl
split (b ∷ bs) h = split_when b bs h (eqb b 10) (split bs)

-- however an input is cut into chunks, what is printed for them is what its lines print
pub whole : (cs : List (List ℕ)) (s : State) → said cs [] s ≡ output_of (lines_of (joined cs)) s
whole cs s = said_lines cs [] s ∙ ap (λ (l : List (List ℕ)). output_of l s) (split (joined cs) [] ∙ before_none (lines_of (joined cs)))
