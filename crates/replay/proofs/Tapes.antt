-- A list of calls in slices: where it ends, where it goes on with a call, and what follows of the whole. Assumes nothing.
use mathlib.Core.Path.{◌≡◌, refl, ap, sym, subst, ◌∙◌}
use mathlib.Core.Bool.{Bool, true, false, ◌&&◌, ◌||◌, false≢true}
use mathlib.Core.List.{List, [], ◌∷◌, ◌++◌, append_assoc}
use Rattle.std.specs.Prelude.{Some, None}
use Prim.Native.Nat.{ℕ, suc, ◌+◌, ◌-◌, ◌≤◌, ◌<◌}
use native.Mathlib.Omega.{arith}
use lib.Dec.{eqb, leb, ltb}
use lib.ListN.{length, take, drop, get_or, length-append, length-drop}
use lib.Seq.{drop-drop}
use borrow.Author.Tests.{ltb-true, leb-true, eqb-true}
use Rattle.steps.specs.State.{State, Limits, empty}
use Rattle.steps.specs.Call.{Outcome}
use Rattle.steps.specs.Step.{over, outcomes, make_of}
use Rattle.steps.specs.Proper.{New}
use Rattle.steps.proofs.Limits.{makes_new}
use Rattle.steps.specs.Trace.{Kind, Trace, stop, call}
use Rattle.steps.specs.Coded.{coded}
use Rattle.steps.proofs.Coded.{coded_length}
use Rattle.steps.specs.Told.{Told}
use Rattle.steps.specs.Call.{call_of, lends, lends_two, has_marks}
use Rattle.replay.specs.Tape.{known, fits, decode, outs_of, outs2_of, answers_of, Ran}
use Rattle.multimap.specs.Map.{state_of}
use Rattle.multimap.specs.WellLinked.{WellLinked, linked}
use Rattle.multimap.specs.declared.ListOrderedMultimap.{ListOrderedMultimap}
use Rattle.multimap.proofs.Demand3.{demand_3}
use Rattle.replay.specs.Played.{Played}
use Rattle.replay.specs.Place.{head_of}
use Rattle.replay.specs.declared.Head.{Head}

-- a list shorter than seven numbers holds no call
pub head_none : (l : List ℕ) → length l < 7 → None ≡ head_of l
head_none [] h = refl
head_none (a ∷ []) h = refl
head_none (a ∷ b ∷ []) h = refl
head_none (a ∷ b ∷ c ∷ []) h = refl
head_none (a ∷ b ∷ c ∷ d ∷ []) h = refl
head_none (a ∷ b ∷ c ∷ d ∷ e ∷ []) h = refl
head_none (a ∷ b ∷ c ∷ d ∷ e ∷ f ∷ []) h = refl
head_none (a ∷ b ∷ c ∷ d ∷ e ∷ f ∷ g ∷ l) h = absurd (omega arith)

pub head_first : (l : List ℕ) → 7 ≤ length l
    → Some (record { op = get_or l 0 0; poster = get_or l 1 0; k = get_or l 2 0; v = get_or l 3 0; n = get_or l 4 0; n2 = get_or l 5 0; n3 = get_or l 6 0 }) ≡ head_of l
head_first [] h = absurd (omega arith)
head_first (a ∷ []) h = absurd (omega arith)
head_first (a ∷ b ∷ []) h = absurd (omega arith)
head_first (a ∷ b ∷ c ∷ []) h = absurd (omega arith)
head_first (a ∷ b ∷ c ∷ d ∷ []) h = absurd (omega arith)
head_first (a ∷ b ∷ c ∷ d ∷ e ∷ []) h = absurd (omega arith)
head_first (a ∷ b ∷ c ∷ d ∷ e ∷ f ∷ []) h = absurd (omega arith)
head_first (a ∷ b ∷ c ∷ d ∷ e ∷ f ∷ g ∷ l) h = refl

pub decode_none : (calls outs outs2 marks : List ℕ) (space : ℕ) → head_of calls ≡ None → decode calls outs outs2 marks space ≡ []
unfolding decode
decode_none [] o p q s h = refl
decode_none (a ∷ []) o p q s h = refl
decode_none (a ∷ b ∷ []) o p q s h = refl
decode_none (a ∷ b ∷ c ∷ []) o p q s h = refl
decode_none (a ∷ b ∷ c ∷ d ∷ []) o p q s h = refl
decode_none (a ∷ b ∷ c ∷ d ∷ e ∷ []) o p q s h = refl
decode_none (a ∷ b ∷ c ∷ d ∷ e ∷ f ∷ []) o p q s h = refl
decode_none (a ∷ b ∷ c ∷ d ∷ e ∷ f ∷ g ∷ l) o p q s h = absurd (cc h)

-- the call's numbers, and what is behind them
pub head_says : (l : List ℕ) (h : Head) → head_of l ≡ Some h → l ≡ h.op ∷ h.poster ∷ h.k ∷ h.v ∷ h.n ∷ h.n2 ∷ h.n3 ∷ drop 7 l
head_says [] h e = absurd (cc e)
head_says (a ∷ []) h e = absurd (cc e)
head_says (a ∷ b ∷ []) h e = absurd (cc e)
head_says (a ∷ b ∷ c ∷ []) h e = absurd (cc e)
head_says (a ∷ b ∷ c ∷ d ∷ []) h e = absurd (cc e)
head_says (a ∷ b ∷ c ∷ d ∷ x ∷ []) h e = absurd (cc e)
head_says (a ∷ b ∷ c ∷ d ∷ x ∷ y ∷ []) h e = absurd (cc e)
head_says (a ∷ b ∷ c ∷ d ∷ x ∷ y ∷ z ∷ l) h e =
    ap (λ (j : Head). j.op ∷ j.poster ∷ j.k ∷ j.v ∷ j.n ∷ j.n2 ∷ j.n3 ∷ l) (cc e)

module _ (op poster k v n n2 n3 : ℕ) (calls outs outs2 marks : List ℕ) (space : ℕ) where
  pub decode_not : fits op n n2 n3 (length outs) (length outs2) (length marks) space ≡ false → decode (op ∷ poster ∷ k ∷ v ∷ n ∷ n2 ∷ n3 ∷ calls) outs outs2 marks space ≡ []
  unfolding decode
  decode_not e = rw e refl

  pub decode_call : fits op n n2 n3 (length outs) (length outs2) (length marks) space ≡ true
      → decode (op ∷ poster ∷ k ∷ v ∷ n ∷ n2 ∷ n3 ∷ calls) outs outs2 marks space
      ≡ call_of op poster k v (take n outs) (take n2 outs2) (take n3 marks) ∷ decode calls (drop n outs) (drop n2 outs2) (drop n3 marks) (space - 4)
  unfolding decode
  decode_call e = rw e refl

-- what fits says
pub record Fits (op n n2 n3 room room2 room3 space : ℕ) : Type 0 where
  pub op_in : op < 24
  pub n_in : n ≤ room
  pub n2_in : n2 ≤ room2
  pub n3_in : n3 ≤ room3
  pub space_in : 4 ≤ space
  pub no_slice : lends op ≡ false → n ≡ 0
  pub no_second : lends_two op ≡ false → n2 ≡ 0
  pub no_marks : has_marks op ≡ false → n3 ≡ 0

and_left : (a b : Bool) → (a && b) ≡ true → a ≡ true
and_left true b e = refl
and_left false b e = e

and_right : (a b : Bool) → (a && b) ≡ true → b ≡ true
and_right true b e = e
and_right false b e = absurd (false≢true e)

or_else : (a : Bool) (n : ℕ) → (a || eqb n 0) ≡ true → a ≡ false → n ≡ 0
or_else a n e f = eqb-true n 0 (sym (ap (λ (t : Bool). t || eqb n 0) f) ∙ e)

pub fits_says : (op n n2 n3 room room2 room3 space : ℕ) → fits op n n2 n3 room room2 room3 space ≡ true → Fits op n n2 n3 room room2 room3 space
unfolding fits
fits_says op n n2 n3 room room2 room3 space e =
    let k = and_left (known op n n2 n3) _ e in
    let a = and_right (ltb op 24) _ k in
    let b = and_right (lends op || eqb n 0) _ a in
    let r = and_right (known op n n2 n3) _ e in
    let f = and_left (leb n room && leb n2 room2) _ r in
    let g = and_right (leb n room && leb n2 room2) _ r in
    record {
      op_in = ltb-true op 24 (and_left (ltb op 24) _ k);
      n_in = leb-true n room (and_left (leb n room) _ f);
      n2_in = leb-true n2 room2 (and_right (leb n room) _ f);
      n3_in = leb-true n3 room3 (and_left (leb n3 room3) _ g);
      space_in = leb-true 4 space (and_right (leb n3 room3) _ g);
      no_slice = or_else (lends op) n (and_left (lends op || eqb n 0) _ a);
      no_second = or_else (lends_two op) n2 (and_left (lends_two op || eqb n2 0) _ b);
      no_marks = or_else (has_marks op) n3 (and_right (lends_two op || eqb n2 0) _ b);
    }

-- p in front of what L leaves of the rest
join_over : (p L xs o : List ℕ) (n : ℕ) → length p ≡ n → o ≡ over L (drop n xs) → p ++ o ≡ over (p ++ L) xs
join_over p L xs o n e f =
    ap (λ (l : List ℕ). p ++ l) (f ∙ ap (λ (l : List ℕ). L ++ l) (drop-drop (length L) n xs))
    ∙ sym (append_assoc p L (drop (n + length L) xs))
    ∙ ap (λ (j : ℕ). (p ++ L) ++ drop j xs) (sym (length-append p L ∙ ap (λ (j : ℕ). j + length L) e))

module _ {Map : Type 0} (M : Kind Map) where
  pub ran_ended : (calls outs outs2 marks ans : List ℕ) (m : Map) → decode calls outs outs2 marks (length ans) ≡ [] → Ran M calls outs outs2 marks ans m outs outs2 ans m 0
  ran_ended calls outs outs2 marks ans m e = record { outcomes = []; trace = rw e stop; outs_are = refl; outs2_are = refl; ans_are = refl; number = sym (ap length e) }

  pub ran_call : (op poster k v n n2 n3 : ℕ) (calls outs outs2 marks ans : List ℕ) (m m₁ m' : Map) (out out2 an o o2 a : List ℕ) (t : ℕ)
      → fits op n n2 n3 (length outs) (length outs2) (length marks) (length ans) ≡ true → length out ≡ n → length out2 ≡ n2
      → Told M (call_of op poster k v (take n outs) (take n2 outs2) (take n3 marks)) m m₁ out out2 an
      → Ran M calls (drop n outs) (drop n2 outs2) (drop n3 marks) (drop 4 ans) m₁ o o2 a m' t
      → Ran M (op ∷ poster ∷ k ∷ v ∷ n ∷ n2 ∷ n3 ∷ calls) outs outs2 marks ans m (out ++ o) (out2 ++ o2) (an ++ a) m' (suc t)
  ran_call op poster k v n n2 n3 calls outs outs2 marks ans m m₁ m' out out2 an o o2 a s e l l2 t r =
      record {
        outcomes = t.outcome ∷ r.outcomes;
        trace = rw (decode_call op poster k v n n2 n3 calls outs outs2 marks (length ans) e, ← length-drop 4 ans) (call (λ h. t.does) r.trace);
        outs_are = ap (λ (x : List ℕ). x ++ o) t.out_is ∙ join_over t.outcome.slices.out (outs_of r.outcomes) outs o n (sym (ap length t.out_is) ∙ l) r.outs_are;
        outs2_are = ap (λ (x : List ℕ). x ++ o2) t.out2_is ∙ join_over t.outcome.slices.out2 (outs2_of r.outcomes) outs2 o2 n2 (sym (ap length t.out2_is) ∙ l2) r.outs2_are;
        ans_are = ap (λ (x : List ℕ). x ++ a) t.ans_is ∙ join_over (coded t.outcome.answer) (answers_of r.outcomes) ans a 4 (coded_length t.outcome.answer) r.ans_are;
        number = rw (decode_call op poster k v n n2 n3 calls outs outs2 marks (length ans) e, ← length-drop 4 ans) (ap suc r.number);
      }

-- from the new linked map with the limits l
pub played : (l : Limits) (calls outs outs2 marks ans outs' outs2' ans' : List ℕ) (m m' : ListOrderedMultimap) (n : ℕ) → Ran linked calls outs outs2 marks ans m outs' outs2' ans' m' n
    → WellLinked m → state_of m ≡ (make_of l).1 → Played l calls outs outs2 marks ans outs' outs2' ans' m' n
played l calls outs outs2 marks ans outs' outs2' ans' m m' n r h e =
    let cs = decode calls outs outs2 marks (length ans) in
    let new : New (state_of m) = subst (λ (s : State). New s) (sym e) (makes_new l) in
    let from : empty (state_of m).limits ≡ (make_of l).1 = sym new.state ∙ e in
    let same : r.outcomes ≡ outcomes cs (make_of l).1 = (demand_3 linked (λ m. m) (λ m h. h) r.trace h new).obeys.outcomes ∙ ap (λ (s : State). outcomes cs s) from in
    let t : Trace linked cs m (outcomes cs (make_of l).1) m' = subst (λ (os : List Outcome). Trace linked cs m os m') same r.trace in
    record {
      start = m;
      start_linked = h;
      start_new = e;
      trace = t;
      demand_3 = demand_3 linked (λ m. m) (λ m h. h) t h new;
      outs_are = r.outs_are ∙ ap (λ (os : List Outcome). over (outs_of os) outs) same;
      outs2_are = r.outs2_are ∙ ap (λ (os : List Outcome). over (outs2_of os) outs2) same;
      ans_are = r.ans_are ∙ ap (λ (os : List Outcome). over (answers_of os) ans) same;
      number = r.number;
    }
