-- Laws of chunks: one after another, and one up to its first line end. Assumes nothing.
use Prim.Native.Nat.{ℕ, suc, ◌+◌, ◌-◌, ◌≤◌, ◌<◌}
use mathlib.Core.Path.{◌≡◌, refl, sym, ap, ◌∙◌}
use mathlib.Core.Bool.{Bool, true, false, cond}
use mathlib.Core.List.{List, [], ◌∷◌, ◌++◌, append-nil}
use native.Mathlib.Omega.{arith}
use native.Mathlib.Numerals.{add-one}
use lib.Dec.{eqb}
use Rattle.std.specs.Bool.{◌==◌}
use lib.ListN.{length, take, drop, length-take, length-drop, drop_of_length-le}
use lib.Seq.{append_snoc, take_all, take-add}
use borrow.Author.Tests.{eqb-true}
use borrow.Rule.Slice.PartMut.{put_mid}
use Rattle.steps.specs.State.{State}
use Rattle.multimap.specs.Map.{state_of}
use Rattle.multimap.specs.declared.ListOrderedMultimap.{ListOrderedMultimap}
use Rattle.parsing.specs.Split.{gap}
use Rattle.parsing.proofs.Splits.{take_front}
use Rattle.printing.specs.Said.{Roomy}
use Rattle.one_line.specs.Answers.{Answers}
use Rattle.lines.specs.Output.{output_of, after}
use Rattle.lines.specs.Chunk.{held_of, ended, rest, front, Chunked, AnswersRest}
use Rattle.lines.specs.Taken.{Ends, GoesOn}
use Rattle.lines.specs.declared.Unfinished.{Unfinished}
use Rattle.lines.proofs.Outputs.{same_printed, same_after, outputs_none, outputs_one, outputs_as, outputs_join}

-- ---- one chunk after another

append_when : (b : ℕ) (x y h : List ℕ) (t : Bool)
    → ((h : List ℕ) → (ended h (x ++ y) ≡ ended h x ++ ended (rest h x) y) × (rest h (x ++ y) ≡ rest (rest h x) y))
    → (cond t (h ∷ ended [] (x ++ y)) (ended (h ++ (b ∷ [])) (x ++ y))
    ≡ cond t (h ∷ ended [] x) (ended (h ++ (b ∷ [])) x) ++ ended (cond t (rest [] x) (rest (h ++ (b ∷ [])) x)) y)
    × (cond t (rest [] (x ++ y)) (rest (h ++ (b ∷ [])) (x ++ y)) ≡ rest (cond t (rest [] x) (rest (h ++ (b ∷ [])) x)) y)
append_when b x y h true ih = (ap (λ (l : List (List ℕ)). h ∷ l) (ih []).0, (ih []).1)
append_when b x y h false ih = ih (h ++ (b ∷ []))

-- the lines that end in x ++ y are those that end in x, and then those in y; and what is held after it
pub chunk_append : (x y h : List ℕ) → (ended h (x ++ y) ≡ ended h x ++ ended (rest h x) y) × (rest h (x ++ y) ≡ rest (rest h x) y)
unfolding ended rest
chunk_append [] y h = (refl, refl)
chunk_append (b ∷ x) y h = append_when b x y h (eqb b 10) (chunk_append x y)

-- ---- what is held of a line decides like the line

same_front : (g h s : List ℕ) → front g ≡ front h → front (g ++ s) ≡ front (h ++ s)
same_front g h s e = sym (take_front 1101 g s) ∙ ap (λ (l : List ℕ). front (l ++ s)) e ∙ take_front 1101 h s

-- lines of which only the first may differ, and not in its front
pub data Alike : List (List ℕ) → List (List ℕ) → Type 0 where
  none : Alike [] []
  first : {g h : List ℕ} {ls : List (List ℕ)} → front g ≡ front h → Alike (g ∷ ls) (h ∷ ls)

module _ (s : State) where
  pub alike_output : {ls ms : List (List ℕ)} → Alike ls ms → output_of ls s ≡ output_of ms s
  alike_output none = refl
  alike_output (first {g} {h} {ls} e) = same_printed g h ls s e

  pub alike_after : {ls ms : List (List ℕ)} → Alike ls ms → after ls s ≡ after ms s
  alike_after none = refl
  alike_after (first {g} {h} {ls} e) = same_after g h ls s e

alike_none : {ls ms : List (List ℕ)} → Alike ls ms → ms ≡ [] → ls ≡ []
alike_none none e = refl
alike_none (first f) e = let z : ◌≡◌ {A = ℕ} 0 1 = cc in absurd (omega arith)

alike_when : (b : ℕ) (y g h : List ℕ) (t : Bool) → front g ≡ front h
    → ((g h : List ℕ) → front g ≡ front h → Alike (ended g y) (ended h y) × (front (rest g y) ≡ front (rest h y)))
    → Alike (cond t (g ∷ ended [] y) (ended (g ++ (b ∷ [])) y)) (cond t (h ∷ ended [] y) (ended (h ++ (b ∷ [])) y))
    × (front (cond t (rest [] y) (rest (g ++ (b ∷ [])) y)) ≡ front (cond t (rest [] y) (rest (h ++ (b ∷ [])) y)))
alike_when b y g h true e ih = (first e, refl)
alike_when b y g h false e ih = ih (g ++ (b ∷ [])) (h ++ (b ∷ [])) (same_front g h (b ∷ []) e)

pub alike : (y g h : List ℕ) → front g ≡ front h → Alike (ended g y) (ended h y) × (front (rest g y) ≡ front (rest h y))
unfolding ended rest
alike [] g h e = (none, e)
alike (b ∷ y) g h e = alike_when b y g h (eqb b 10) e (alike y)

pub front_front : (h : List ℕ) → front (front h) ≡ front h
front_front h = take_all 1101 (take 1101 h) (omega (arith, length-take 1101 h))

-- before the first turn
pub chunk_none : (u : Unfinished) (m : ListOrderedMultimap) (was : List ℕ) → length u.bytes ≡ 1101 → Chunked (held_of u) [] m was was m 0 (held_of u)
unfolding ended rest
chunk_none u m was l =
    record {
      outputs = outputs_none m was;
      held = sym (take_all 1101 (held_of u) (omega (arith, length-take u.held u.bytes)));
    }

pub chunk_join : {h x h' y h'' : List ℕ} {m m' m'' : ListOrderedMultimap} {was out part : List ℕ} {u v : ℕ} → Chunked h x m was out m' u h' → Chunked h' y m' (drop u out) part m'' v h''
    → Chunked h (x ++ y) m was (take u out ++ part) m'' (u + v) h''
chunk_join {h} {x} {h'} {y} {h''} {m} {m'} p q =
    let e : front h' ≡ front (rest h x) = ap front p.held ∙ front_front (rest h x) in
    let a = alike y h' (rest h x) e in
    let o = outputs_join p.outputs (outputs_as (ended (rest h x) y) q.outputs (alike_output (state_of m') a.0) (alike_after (state_of m') a.0) (alike_none a.0)) in
    let c = chunk_append x y h in
    record { outputs = rw c.0 o; held = q.held ∙ a.1 ∙ ap front (sym c.1) }

-- a turn of `answer_chunk`: the next part of the chunk is answered to the part of `out` that is left
pub chunk_turn : (chunk : List ℕ) (at e : ℕ) {h h' h'' : List ℕ} {m m' m'' : ListOrderedMultimap} {was out part : List ℕ} {used v : ℕ} → Chunked h (take at chunk) m was out m' used h'
    → Chunked h' (take e (take (length chunk - at) (drop at chunk))) m' (take (length out - used) (drop used out)) part m'' v h''
    → Chunked h (take (at + e) chunk) m was (put_mid used (length out - used) out part) m'' (used + v) h''
chunk_turn chunk at e {h} {h'} {h''} {m} {m'} {m''} {was} {out} {part} {used} {v} p q =
    let c : take (length chunk - at) (drop at chunk) ≡ drop at chunk = take_all (length chunk - at) (drop at chunk) (omega (arith, length-drop at chunk)) in
    let o : take (length out - used) (drop used out) ≡ drop used out = take_all (length out - used) (drop used out) (omega (arith, length-drop used out)) in
    let n : drop (length out - used) (drop used out) ≡ [] = drop_of_length-le (drop used out) {i = length out - used} (omega (arith, length-drop used out)) in
    rw (take-add at e chunk, n, append-nil part) (chunk_join p (rw (c, o) at q))

-- ---- a chunk up to its first line end

ends_when : (b : ℕ) (c h : List ℕ) (t : Bool) → cond t 0 (suc (gap 10 c)) < suc (length c)
    → ((h : List ℕ) → gap 10 c < length c → (ended h (take (suc (gap 10 c)) c) ≡ (h ++ take (gap 10 c) c) ∷ []) × (rest h (take (suc (gap 10 c)) c) ≡ []))
    → (cond t (h ∷ ended [] (take (cond t 0 (suc (gap 10 c))) c)) (ended (h ++ (b ∷ [])) (take (cond t 0 (suc (gap 10 c))) c))
    ≡ (h ++ take (cond t 0 (suc (gap 10 c))) (b ∷ c)) ∷ [])
    × (cond t (rest [] (take (cond t 0 (suc (gap 10 c))) c)) (rest (h ++ (b ∷ [])) (take (cond t 0 (suc (gap 10 c))) c)) ≡ [])
unfolding ended rest
ends_when b c h true i ih = (ap (λ (l : List ℕ). l ∷ []) (sym (append-nil h)), refl)
ends_when b c h false i ih =
    let n = ih (h ++ (b ∷ [])) (omega arith) in
    (n.0 ∙ ap (λ (l : List ℕ). l ∷ []) (append_snoc h b (take (gap 10 c) c)), n.1)

-- a chunk up to its first line end ends a line, and nothing is held
ends : (c h : List ℕ) → gap 10 c < length c → (ended h (take (suc (gap 10 c)) c) ≡ (h ++ take (gap 10 c) c) ∷ []) × (rest h (take (suc (gap 10 c)) c) ≡ [])
unfolding ended rest gap
ends [] h i = absurd (omega arith)
ends (b ∷ c) h i = ends_when b c h (eqb b 10) i (ends c)

goes_when : (b : ℕ) (c h : List ℕ) (t : Bool) → suc (length c) ≤ cond t 0 (suc (gap 10 c))
    → ((h : List ℕ) → length c ≤ gap 10 c → (ended h c ≡ []) × (rest h c ≡ h ++ c))
    → (cond t (h ∷ ended [] c) (ended (h ++ (b ∷ [])) c) ≡ []) × (cond t (rest [] c) (rest (h ++ (b ∷ [])) c) ≡ h ++ (b ∷ c))
goes_when b c h true i ih = absurd (omega arith)
goes_when b c h false i ih = let n = ih (h ++ (b ∷ [])) (omega arith) in (n.0, n.1 ∙ append_snoc h b c)

-- a chunk without a line end ends no line, and is held
goes_on : (c h : List ℕ) → length c ≤ gap 10 c → (ended h c ≡ []) × (rest h c ≡ h ++ c)
unfolding ended rest gap
goes_on [] h i = (refl, sym (append-nil h))
goes_on (b ∷ c) h i = goes_when b c h (eqb b 10) i (goes_on c)

-- what `take_line` takes of a chunk, and what is done with it
module _ {chunk : List ℕ} {was line : Unfinished} (long : length was.bytes ≡ 1101) where
  -- a line has ended, and is answered
  pub took_line : {m m' : ListOrderedMultimap} {old out : List ℕ} {u n : ℕ} → Ends chunk was line u → Roomy old → length out ≡ length old → Answers (held_of line) m old out m' n
      → Chunked (held_of was) (take u chunk) m old out m' n []
  took_line {m} {m'} {old} {out} {u} {n} k h same a =
      let all = held_of was ++ take (gap 10 chunk) chunk in
      let g : gap 10 chunk < length chunk = k.within in
      let e : u ≡ suc (gap 10 chunk) = k.used ∙ add-one (gap 10 chunk) in
      let f : front (held_of line) ≡ front all = ap front (k.holds.front ∙ ap (λ (i : ℕ). take i all) long) ∙ front_front all in
      record {
        outputs = rw (e, (ends chunk (held_of was) g).0) (outputs_one all f h same a);
        held = sym (ap front (ap (λ (i : ℕ). rest (held_of was) (take i chunk)) e ∙ (ends chunk (held_of was) g).1));
      }

  -- the line goes on
  pub took_part : {m : ListOrderedMultimap} (old : List ℕ) → GoesOn chunk was line → Chunked (held_of was) (take (length chunk) chunk) m old old m 0 (held_of line)
  took_part {m} old k =
      let g : length chunk ≤ gap 10 chunk = omega (arith, k.whole) in
      let u : take (length chunk) chunk ≡ chunk = take_all (length chunk) chunk (omega arith) in
      record {
        outputs = rw (u, (goes_on chunk (held_of was) g).0) (outputs_none m old);
        held = k.holds.front ∙ ap (λ (i : ℕ). take i (held_of was ++ chunk)) long ∙ ap front (sym (goes_on chunk (held_of was) g).1 ∙ ap (rest (held_of was)) (sym u));
      }

-- ---- the end of the input

pub rest_none : (l : List ℕ) (m : ListOrderedMultimap) (was : List ℕ) → (length l == 0) ≡ true → AnswersRest l m was was m 0
rest_none [] m was h = record { answered = λ r. outputs_none m was; unanswered = λ r. record { kept = refl; none = refl; same = refl } }
rest_none (b ∷ bs) m was h = absurd (omega (arith, eqb-true (length (b ∷ bs)) 0 h))

pub rest_some : {m m' : ListOrderedMultimap} {was out : List ℕ} {k : ℕ} (l : List ℕ) → (length l == 0) ≡ false → length out ≡ length was → Answers l m was out m' k
    → AnswersRest l m was out m' k
rest_some [] h i a = cc
rest_some (b ∷ bs) h i a = record { answered = λ r. outputs_one (b ∷ bs) refl r i a; unanswered = a.unanswered }
