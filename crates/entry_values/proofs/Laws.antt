-- Laws of a mix of calls on one reader:
--     run_answers    the answers of a run of calls, and what is not given after it, are those that the definitions on the list give
--     every_mix      a run gives every round once, from its end, and then none for ever
--     mirrored       a mix on a list in reverse answers what the mix with all marks turned answers on the list
--     all_next       calls of `next` alone give the rounds in order, and then none
--     all_back       calls of `next_back` alone give them in reverse order, and then none
-- Assumes nothing.
use Rattle.std.proofs.Common.{ℕ, zero, suc, ◌+◌, ◌-◌, ◌<◌, min, ◌≡◌, refl, sym, ◌∙◌, ap, subst, Bool, true, false, not, List, [], ◌∷◌, ◌++◌, Some, map, length, get_or, take, drop, replicate, reverse, arith}
use Rattle.std.proofs.lemmas.Grind.{common_steps}
use Rattle.std.proofs.lemmas.List.{append-nil, append_assoc, length-append, length-replicate, length-reverse, length_push, reverse-append, get_or_push, take_at, take_all, take_more}
use Rattle.std.proofs.lemmas.Option.{slice_get-get_or, slice_get_read}
use mathlib.Core.List.{reverse-cons}
use native.Mathlib.Nat.{sub-zero}
use Rattle.std.specs.Prelude.{slice_get}
use Rattle.steps.specs.Call.{Answer, none, round}
use Rattle.entry_values.specs.declared.EntryValues.{EntryValues}
use Rattle.entry_values.specs.Reader.{answer, rest, or_none, remaining}
use Rattle.entry_values.specs.Mix.{answers, after, given, Runs, stop, call, fronts, backs, Gives}

pub run_answers : {e e' : EntryValues} {bs : List Bool} {rs : List Answer} → Runs e bs rs e' → (rs ≡ answers bs (remaining e)) × (remaining e' ≡ after bs (remaining e))
run_answers stop = (refl, refl)
run_answers (call {b} {e} {e'} {e''} {r} {bs} {rs} s run) =
    let ih = run_answers run in
    let g = s.gave in
    grind (arith, ih, g.says, g.leaves)

-- the last element of a list with one more, and what stands before it
last_push : (l : List ℕ) (x : ℕ) → slice_get (l ++ x ∷ []) (length (l ++ x ∷ []) - 1) ≡ Some x
last_push l x =
    let longer : length (l ++ x ∷ []) ≡ length l + 1 = length_push l x in
    slice_get_read (l ++ x ∷ []) _ _ x refl (omega arith) (sym (get_or_push l x x (length (l ++ x ∷ []) - 1) (omega arith)))

init_push : (l : List ℕ) (x : ℕ) → take (length (l ++ x ∷ []) - 1) (l ++ x ∷ []) ≡ l
init_push l x = grind (arith, common_steps, take_at)

-- a list that is not empty is its last element after the others
ends : (x : ℕ) (l : List ℕ) → (y : ℕ) × (slice_get (x ∷ l) (length (x ∷ l) - 1) ≡ Some y) × (take (length (x ∷ l) - 1) (x ∷ l) ++ (y ∷ []) ≡ x ∷ l)
ends x l =
    let i = length (x ∷ l) - 1 in
    let whole : i + 1 ≡ length (x ∷ l) = omega arith in
    let h : i < length (x ∷ l) = omega arith in
    (get_or (x ∷ l) i 0, slice_get-get_or (x ∷ l) i 0 h, sym (take_more (x ∷ l) i 0 h) ∙ take_all (i + 1) (x ∷ l) (omega arith))

-- a call where there is a round: it is given, and there is one less
record GivenOne (b : Bool) (l l' : List ℕ) : Type 0 where
  value : ℕ
  says : answer b l ≡ round value
  fewer : length (rest b l) ≡ length l'

gives_one : (b : Bool) (x : ℕ) (l : List ℕ) → GivenOne b (x ∷ l) l
gives_one false x l = record { value = x; says = refl; fewer = refl }
gives_one true x l = let h = ends x l in record {
  value = h.0;
  says = ap or_none h.1;
  fewer = omega (arith, length-append (rest true (x ∷ l)) (h.0 ∷ []), ap length h.2);
}

-- a call where there is none
none_left : (b : Bool) → (answer b [] ≡ none) × (rest b [] ≡ [])
none_left false = (refl, refl)
none_left true = (refl, refl)

rest_fewer : (b : Bool) (l : List ℕ) → length (rest b l) ≡ length l - 1
rest_fewer b [] = rw (none_left b).1 refl
rest_fewer b (x ∷ l) = omega (arith, (gives_one b x l).fewer)

after_fewer : (bs : List Bool) (l : List ℕ) → length (after bs l) ≡ length l - length bs
after_fewer [] l = omega arith
after_fewer (b ∷ bs) l = omega (arith, after_fewer bs (rest b l), rest_fewer b l)

once : (bs : List Bool) (l : List ℕ) → fronts bs (answers bs l) ++ (after bs l ++ backs bs (answers bs l)) ≡ l
once [] l = append-nil l
once (false ∷ bs) [] = once bs []
once (false ∷ bs) (x ∷ l) = grind (arith, once bs l)
once (true ∷ bs) [] = grind (arith, append-nil (backs bs (answers bs [])), once bs [])
once (true ∷ bs) (x ∷ l) = let h = ends x l in grind (arith, h.1, h.2, once bs (rest true (x ∷ l)), append_assoc)

answers_none : (bs : List Bool) → answers bs [] ≡ replicate (length bs) none
answers_none [] = refl
answers_none (b ∷ bs) = grind (arith, none_left b, answers_none bs)

given_none : (bs : List Bool) → given bs [] ≡ []
given_none [] = refl
given_none (b ∷ bs) = grind (arith, none_left b, given_none bs)

how_many : (bs : List Bool) (l : List ℕ) → length (given bs l) ≡ min (length bs) (length l)
how_many [] l = omega arith
how_many (b ∷ bs) [] = omega (arith, ap length (given_none (b ∷ bs)))
how_many (b ∷ bs) (x ∷ l) =
    let h = gives_one b x l in
    rw h.says (omega (arith, how_many bs (rest b (x ∷ l)), h.fewer))

none_at_last : (bs : List Bool) (l : List ℕ) → answers bs l ≡ map round (given bs l) ++ replicate (length bs - length l) none
none_at_last [] l = grind arith
none_at_last (b ∷ bs) [] = answers_none (b ∷ bs) ∙ rw (given_none (b ∷ bs), sub-zero) refl
none_at_last (b ∷ bs) (x ∷ l) =
    let h = gives_one b x l in
    grind (arith, h.says, h.fewer, none_at_last bs (rest b (x ∷ l)))

pub every_mix : {e e' : EntryValues} {bs : List Bool} {rs : List Answer} → Runs e bs rs e' → Gives e bs rs e'
every_mix {e} {e'} {bs} run = let h = run_answers run in record {
  once = rw (h.0, h.1) (once bs (remaining e));
  fewer = rw h.1 (after_fewer bs (remaining e));
  number = rw h.0 (how_many bs (remaining e));
  then_none = rw h.0 (none_at_last bs (remaining e));
}

-- a call on a list in reverse is the call at the other end
answer_reverse : (b : Bool) (l : List ℕ) → answer (not b) (reverse l) ≡ answer b l
answer_reverse false [] = refl
answer_reverse false (x ∷ l) = rw (reverse-cons x l) (ap or_none (last_push (reverse l) x))
answer_reverse true [] = refl
answer_reverse true (x ∷ l) = let h = ends x l in subst (λ (t : List ℕ). answer false (reverse t) ≡ answer true t) h.2 (of_snoc (rest true (x ∷ l)) h.0)
  where
    of_snoc : (t : List ℕ) (y : ℕ) → answer false (reverse (t ++ (y ∷ []))) ≡ answer true (t ++ (y ∷ []))
    of_snoc t y = ap (answer false) (reverse-append t (y ∷ [])) ∙ sym (ap or_none (last_push t y))

rest_reverse : (b : Bool) (l : List ℕ) → rest (not b) (reverse l) ≡ reverse (rest b l)
rest_reverse false [] = refl
rest_reverse false (x ∷ l) = rw (reverse-cons x l) (init_push (reverse l) x)
rest_reverse true [] = refl
rest_reverse true (x ∷ l) = let h = ends x l in subst (λ (t : List ℕ). drop 1 (reverse t) ≡ reverse (rest true t)) h.2 (of_snoc (rest true (x ∷ l)) h.0)
  where
    of_snoc : (t : List ℕ) (y : ℕ) → drop 1 (reverse (t ++ (y ∷ []))) ≡ reverse (rest true (t ++ (y ∷ [])))
    of_snoc t y = ap (drop 1) (reverse-append t (y ∷ [])) ∙ sym (ap reverse (init_push t y))

pub mirrored : (bs : List Bool) (l : List ℕ) → answers (map not bs) (reverse l) ≡ answers bs l
mirrored [] l = refl
mirrored (b ∷ bs) l = grind (arith, answer_reverse b l, rest_reverse b l, mirrored bs (rest b l))

pub all_next : (n : ℕ) (l : List ℕ) → answers (replicate n false) l ≡ map round (take n l) ++ replicate (n - length l) none
all_next zero l = grind arith
all_next (suc n) [] = answers_none (replicate (suc n) false) ∙ rw (length-replicate n false, sub-zero) refl
all_next (suc n) (x ∷ l) = grind (arith, all_next n l)

pub all_back : (n : ℕ) (l : List ℕ) → answers (replicate n true) l ≡ map round (take n (reverse l)) ++ replicate (n - length l) none
all_back n l =
    sym (mirrored (replicate n true) l) ∙ ap (λ (bs : List Bool). answers bs (reverse l)) (turned n)
    ∙ all_next n (reverse l) ∙ rw (length-reverse l) refl
  where
    turned : (k : ℕ) → map not (replicate k true) ≡ replicate k false
    turned zero = refl
    turned (suc k) = ap (λ (t : List Bool). false ∷ t) (turned k)
