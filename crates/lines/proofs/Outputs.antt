-- Laws of lines answered one after another. Assumes nothing.
use Prim.Native.Nat.{ℕ, ◌+◌}
use mathlib.Core.Path.{◌≡◌, refl, sym, ap, ◌∙◌}
use mathlib.Core.List.{List, [], ◌∷◌, ◌++◌, append_assoc, append-nil}
use native.Mathlib.Omega.{arith}
use lib.ListN.{length, take, drop, length-append, length-take, length-drop}
use lib.Seq.{take_at, drop_at, drop-drop}
use Rattle.steps.specs.State.{State}
use Rattle.steps.specs.Step.{over}
use Rattle.multimap.specs.Map.{state_of}
use Rattle.multimap.specs.declared.ListOrderedMultimap.{ListOrderedMultimap}
use Rattle.parsing.specs.Line.{Line, line_of}
use Rattle.parsing.proofs.Splits.{line_cut}
use Rattle.printing.specs.Said.{Roomy}
use Rattle.line_calls.specs.Answer.{answer_of}
use Rattle.one_line.specs.Answers.{printed, Answers}
use Rattle.lines.specs.Output.{output_of, after, AnsweredAll, Outputs}
use Rattle.lines.specs.Chunk.{front}

pub output_append : (ls ms : List (List ℕ)) (s : State) → output_of (ls ++ ms) s ≡ output_of ls s ++ output_of ms (after ls s)
unfolding output_of after
output_append [] ms s = refl
output_append (l ∷ ls) ms s =
    ap (λ (o : List ℕ). printed l s ++ o) (output_append ls ms (answer_of (line_of l) s).1)
    ∙ sym (append_assoc (printed l s) (output_of ls (answer_of (line_of l) s).1) (output_of ms (after ls (answer_of (line_of l) s).1)))

pub after_append : (ls ms : List (List ℕ)) (s : State) → after (ls ++ ms) s ≡ after ms (after ls s)
unfolding after
after_append [] ms s = refl
after_append (l ∷ ls) ms s = after_append ls ms (answer_of (line_of l) s).1

-- lines with the same front ask the same
pub same_line : (g h : List ℕ) → front g ≡ front h → line_of g ≡ line_of h
same_line g h e = sym (line_cut g 1101 (omega arith)) ∙ ap line_of e ∙ line_cut h 1101 (omega arith)

pub same_printed : (g h : List ℕ) (ls : List (List ℕ)) (s : State) → front g ≡ front h → output_of (g ∷ ls) s ≡ output_of (h ∷ ls) s
unfolding output_of
same_printed g h ls s e = ap (λ (n : Line). (answer_of n s).0 ++ (10 ∷ []) ++ output_of ls (answer_of n s).1) (same_line g h e)

pub same_after : (g h : List ℕ) (ls : List (List ℕ)) (s : State) → front g ≡ front h → after (g ∷ ls) s ≡ after (h ∷ ls) s
unfolding after
same_after g h ls s e = ap (λ (n : Line). after ls (answer_of n s).1) (same_line g h e)

output_one : (l : List ℕ) (s : State) → output_of (l ∷ []) s ≡ printed l s
unfolding output_of
output_one l s = append-nil (printed l s)

after_one : (l : List ℕ) (s : State) → after (l ∷ []) s ≡ (answer_of (line_of l) s).1
unfolding after
after_one l s = refl

-- nothing is answered
pub outputs_none : (m : ListOrderedMultimap) (was : List ℕ) → Outputs [] m was was m 0
unfolding output_of after
outputs_none m was = record { room = omega arith; long = refl; answered = λ wl. record { bytes = refl; count = refl; state = refl; linked = wl; same = λ e. refl } }

-- a line is answered, by its front
pub outputs_one : {l : List ℕ} {m : ListOrderedMultimap} {was out : List ℕ} {m' : ListOrderedMultimap} {n : ℕ} (line : List ℕ) → front l ≡ front line → Roomy was → length out ≡ length was
    → Answers l m was out m' n → Outputs (line ∷ []) m was out m' n
outputs_one {l} {m} {was} {out} {m'} {n} line e h k a =
    let o : printed l (state_of m) ≡ output_of (line ∷ []) (state_of m) = sym (output_one l (state_of m)) ∙ same_printed l line [] (state_of m) e in
    record {
      room = omega (arith, a.most);
      long = k;
      answered =
          λ wl.
          let r = a.answered h wl in
          record {
            bytes = r.bytes ∙ ap (λ (x : List ℕ). over x was) o;
            count = r.count ∙ ap length o;
            state = r.state ∙ sym (after_one l (state_of m)) ∙ same_after l line [] (state_of m) e;
            linked = r.linked;
            same = λ f. let z : ◌≡◌ {A = ℕ} 0 1 = cc in absurd (omega arith);
          };
    }

-- lines that print the same and leave the same state
pub outputs_as : {ls : List (List ℕ)} {m : ListOrderedMultimap} {was out : List ℕ} {m' : ListOrderedMultimap} {n : ℕ} (ms : List (List ℕ)) → Outputs ls m was out m' n
    → output_of ls (state_of m) ≡ output_of ms (state_of m) → after ls (state_of m) ≡ after ms (state_of m) → (ms ≡ [] → ls ≡ []) → Outputs ms m was out m' n
outputs_as {ls} {m} {was} {out} {m'} {n} ms o e f g =
    record {
      room = o.room;
      long = o.long;
      answered =
          λ wl.
          let r = o.answered wl in
          record {
            bytes = r.bytes ∙ ap (λ (x : List ℕ). over x was) e;
            count = r.count ∙ ap length e;
            state = r.state ∙ f;
            linked = r.linked;
            same = λ h. r.same (g h);
          };
    }

-- one after another
module _ {ls ms : List (List ℕ)} {m m' m'' : ListOrderedMultimap} {was out part : List ℕ} {u v : ℕ} (p : AnsweredAll ls m was out m' u) (q : AnsweredAll ms m' (drop u out) part m'' v) where
  first : List ℕ
  first = output_of ls (state_of m)

  then : List ℕ
  then = output_of ms (state_of m')

  taken : take u out ≡ first
  unfolding first
  taken = ap (take u) p.bytes ∙ take_at first (drop (length first) was) u (sym p.count)

  left : drop u out ≡ drop u was
  unfolding first
  left = ap (drop u) p.bytes ∙ drop_at first (drop (length first) was) u (sym p.count) ∙ ap (λ (n : ℕ). drop n was) (sym p.count)

  all : first ++ then ≡ output_of (ls ++ ms) (state_of m)
  unfolding first then
  all = ap (λ (s : State). output_of ls (state_of m) ++ output_of ms s) p.state ∙ sym (output_append ls ms (state_of m))

  put : take u out ++ part ≡ over (first ++ then) was
  unfolding first then
  put =
      let n : u + length then ≡ length (first ++ then) = omega (arith, p.count, length-append first then) in
      ap (λ (x : List ℕ). x ++ part) taken
      ∙ ap (λ (x : List ℕ). first ++ x) (q.bytes ∙ ap (λ (x : List ℕ). then ++ drop (length then) x) left ∙ ap (λ (x : List ℕ). then ++ x) (drop-drop (length then) u was))
      ∙ ap (λ (k : ℕ). first ++ (then ++ drop k was)) n
      ∙ sym (append_assoc first then (drop (length (first ++ then)) was))

  answered_join : AnsweredAll (ls ++ ms) m was (take u out ++ part) m'' (u + v)
  unfolding first then
  answered_join =
      record {
        bytes = put ∙ ap (λ (x : List ℕ). over x was) all;
        count = omega (arith, p.count, q.count, length-append first then, ap length all);
        state = q.state ∙ ap (after ms) p.state ∙ sym (after_append ls ms (state_of m));
        linked = q.linked;
        same = λ e. q.same (none ls ms e).1 ∙ p.same (none ls ms e).0;
      }
    where
      none : (ls ms : List (List ℕ)) → ls ++ ms ≡ [] → (ls ≡ []) × (ms ≡ [])
      none [] ms e = (refl, e)
      none (l ∷ ls) ms e = let z : ◌≡◌ {A = ℕ} 0 1 = cc in absurd (omega arith)

pub outputs_join : {ls ms : List (List ℕ)} {m m' m'' : ListOrderedMultimap} {was out part : List ℕ} {u v : ℕ} → Outputs ls m was out m' u → Outputs ms m' (drop u out) part m'' v
    → Outputs (ls ++ ms) m was (take u out ++ part) m'' (u + v)
outputs_join {out = out} {part = part} {u = u} p q =
    record {
      room = omega (arith, p.room, q.room, p.long, length-drop u out);
      long = omega (arith, p.room, p.long, q.long, length-append (take u out) part, length-take u out, length-drop u out);
      answered = λ wl. answered_join (p.answered wl) (q.answered (p.answered wl).linked);
    }
