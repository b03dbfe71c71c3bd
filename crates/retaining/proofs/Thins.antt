-- What `thin` makes of the map, and `retain` over it. Assumes nothing.
use Prim.Native.Nat.{ℕ, zero, suc, ◌+◌, ◌-◌, ◌≤◌, ◌<◌}
use mathlib.Core.Path.{◌≡◌, refl, sym, ap, ◌∙◌, subst}
use mathlib.Core.Logic.{◌≢◌, ⊎_elim}
use mathlib.Core.Bool.{Bool, true, false, cond, not, ◌&&◌, ◌||◌, false≢true}
use mathlib.Core.List.{List, [], ◌∷◌, ◌++◌, map, append_assoc}
use native.Mathlib.Omega.{arith}
use borrow.Author.Tests.{eq-eqb, ne_eqb}
use lib.Dec.{eqb, leb}
use lib.ListN.{length, get_or, take, drop, length-take, length-drop}
use Rattle.std.proofs.lemmas.List.{get_or-take, get_or-drop}
use Rattle.std.proofs.lemmas.Bool.Decides.{leb_tells}
use Rattle.std.proofs.Math.Bool.{and_assoc, and-true}
use Rattle.std.specs.List.{fold}
use Rattle.steps.specs.Lists.{all}
use Rattle.steps.specs.State.{State, Pair, has, of, kept, keep}
use Rattle.steps.specs.Call.{refused}
use Rattle.steps.specs.Call as C
use Rattle.steps.specs.Step.{step, checks, act, say}
use Rattle.steps.specs.Trace.{Does}
use Rattle.steps.proofs.Doing.{does_refuse, does_change}
use Rattle.steps.proofs.Filter.{any_append}
use Rattle.steps.proofs.Removals.{keep_all, kept_has}
use Rattle.links.specs.Route.{tally, without, Route}
use Rattle.links.specs.Places.{order}
use Rattle.links.specs.Stores.{at}
use Rattle.links.proofs.Routes.{same_or_not, tally_same, tally_append, route_split, route_start}
use Rattle.links.proofs.Lists.{order_without, length_order}
use Rattle.multimap.specs.declared.ListOrderedMultimap.{ListOrderedMultimap}
use Rattle.multimap.specs.Map.{pair_at, pairs, rounds_of, state_of}
use Rattle.multimap.specs.Popping.{PairGone, rest}
use Rattle.multimap.specs.WellLinked.{WellLinked, linked}
use Rattle.multimap.proofs.Keeping.{gone_keep}
use Rattle.multimap.proofs.Leaves.{pair_gone}
use Rattle.multimap.proofs.Leaving.{all_have}
use Rattle.multimap.proofs.Stores.{map-append, length_pairs}
use Rattle.retaining.specs.Thin.{Thinned}

-- a test of all that goes on past the first that fails
pub all_by_fold : {A : Type 0} (f : A → Bool) (b : Bool) (xs : List A) → fold (λ c x. c && f x) b xs ≡ b && all f xs
all_by_fold f b [] = sym (and-true b)
all_by_fold f b (x ∷ xs) = all_by_fold f (b && f x) xs ∙ and_assoc b (f x) (all f xs)

-- a mark of a block without a 0
no_zero_at : (ms : List ℕ) (k : ℕ) → all (λ m. not (eqb 0 m)) ms ≡ true → k < length ms → get_or ms k 0 ≢ 0
no_zero_at [] k e h = absurd (omega arith)
no_zero_at (m ∷ ms) zero e h = λ (u : m ≡ 0). false≢true (rw (eq-eqb 0 m (sym u)) at e)
no_zero_at (m ∷ ms) (suc k) e h = no_zero_at ms k (after (not (eqb 0 m)) (all (λ n. not (eqb 0 n)) ms) e) (omega arith)
  where
    after : (b c : Bool) → b && c ≡ true → c ≡ true
    after true c f = f
    after false c f = absurd (false≢true f)

-- a block of n marks, up to the place j, has no 0 either
pub block_kept : (ms : List ℕ) (n j : ℕ) → j ≤ length ms → n ≤ j → all (λ m. not (eqb 0 m)) (take n (drop (j - n) ms)) ≡ true
    → ((k : ℕ) → j ≤ k → k < length ms → get_or ms k 0 ≢ 0) → (k : ℕ) → j - n ≤ k → k < length ms → get_or ms k 0 ≢ 0
block_kept ms n j i l e p k h u =
    ⊎_elim (λ (o : (leb j k ≡ true) × (j ≤ k)). p k o.1 u)
    (λ (o : (leb j k ≡ false) × (k < j)).
    let at_k : get_or (take n (drop (j - n) ms)) (k - (j - n)) 0 ≡ get_or ms k 0 =
    get_or-take n (drop (j - n) ms) (k - (j - n)) 0 (omega arith)
    ∙ get_or-drop (j - n) ms (k - (j - n)) 0
    ∙ ap (λ (q : ℕ). get_or ms q 0) (omega arith) in
    subst (λ (v : ℕ). v ≢ 0) at_k
    (no_zero_at (take n (drop (j - n) ms)) (k - (j - n)) e (omega (arith, length-take n (drop (j - n) ms), length-drop (j - n) ms))))
    (leb_tells j k)

-- each mark is 0 or 1
abbrev pub proper : List ℕ → Bool
proper ms = all (λ m. eqb 0 m || eqb 1 m) ms

-- a mark that is not 0 is 1
is_one : (m : ℕ) → (eqb 0 m || eqb 1 m) ≡ true → m ≢ 0 → eqb 1 m ≡ true
is_one m e n = rw (ne_eqb 0 m (λ u. n (sym u))) at e

-- ---- the turns: with i of the marks read, and the place x next, what the others make of o is what all make of a

pub record Going (ms : List ℕ) (q : ℕ) (a : ListOrderedMultimap) (i x : ℕ) (o : ListOrderedMultimap) : Type 0 where
  pub whole : (r : ListOrderedMultimap) → Thinned (drop i ms) x o r → Thinned ms q a r

-- where no mark is 0, nobody leaves
none_out : (ms : List ℕ) (x : ℕ) (a : ListOrderedMultimap) → ((k : ℕ) → k < length ms → get_or ms k 0 ≢ 0) → Thinned ms x a a
none_out [] x a e = refl
none_out (m ∷ ms) x a e =
    (a, record { out = λ u. absurd (e 0 (omega arith) u); stays = λ u. refl }, none_out ms (at a.next_value x) a (λ k h. e (suc k) (omega arith)))

module _ {ms : List ℕ} {q : ℕ} {a : ListOrderedMultimap} {i x : ℕ} {o : ListOrderedMultimap} (g : Going ms q a i x o) where
  -- the walk began at `start`, and past the place `end` no mark is 0
  pub ends : (start end : ℕ) → q ≡ start → ((k : ℕ) → end ≤ k → k < length ms → get_or ms k 0 ≢ 0) → end ≤ i → Thinned ms start a o
  ends start end began past h =
      subst (λ (y : ℕ). Thinned ms y a o) began
      (g.whole o
      (none_out (drop i ms) x o
      (λ k u e. past (i + k) (omega arith) (omega (arith, u, length-drop i ms)) (sym (get_or-drop i ms k 0) ∙ e))))

-- the pairs of the places `front`, and of the places vs those with mark 1
abbrev remaining : ListOrderedMultimap → List ℕ → List ℕ → List ℕ → List Pair
remaining a front ms vs = map (pair_at a) front ++ kept ms (map (pair_at a) vs)

-- ---- one round of a well-linked map

module _ (a : ListOrderedMultimap) (g : WellLinked a) (front : List ℕ) (v : ℕ) (vs : List ℕ) (e : order (rounds_of a) ≡ front ++ (v ∷ vs)) where
  v_in : 0 < tally v (order (rounds_of a))
  v_in = omega (arith, ap (tally v) e, tally_append v front (v ∷ vs), tally_same v vs)

  next_is : at a.next_value v ≡ get_or vs 0 1024
  next_is =
      route_start (at a.next_value) (at a.previous_value) v vs 1024
      (route_split (at a.next_value) (at a.previous_value) 1024 front v vs 1024
      (subst (λ (l : List ℕ). Route (at a.next_value) (at a.previous_value) 1024 l 1024) e g.chained.rounds.route)).1

  left_is : without v (order (rounds_of a)) ≡ front ++ vs
  left_is = order_without (rounds_of a) g.chained.rounds front v vs e

  abbrev f : ℕ → Pair
  f = pair_at a

  still : (ms : List ℕ) (j : ℕ) → has j (remaining a front ms vs) ≡ true → has j (rest a v) ≡ true
  still ms j h =
      ap (λ (l : List ℕ). has j (map f l)) left_is ∙ ap (has j) (map-append f front vs) ∙ any_append (of j) (map f front) (map f vs)
      ∙ or_later (has j (map f front)) (has j (kept ms (map f vs))) (has j (map f vs)) (kept_has j ms (map f vs))
      (sym (any_append (of j) (map f front) (kept ms (map f vs))) ∙ h)
    where
      or_later : (a b c : Bool) → (b ≡ true → c ≡ true) → (a || b) ≡ true → (a || c) ≡ true
      or_later true b c h e = refl
      or_later false b c h e = h e

  kept_out : (m : ℕ) (ms : List ℕ) → m ≡ 0 → (o : ListOrderedMultimap) {gone : Bool} → PairGone a v gone o
      → keep (remaining o front ms vs) (state_of o) ≡ keep (remaining a front (m ∷ ms) (v ∷ vs)) (state_of a)
  kept_out m ms z o w =
      ap (λ (h : ℕ → Pair). keep (map h front ++ kept ms (map h vs)) (state_of o)) w.same
      ∙ gone_keep a g v v_in o w (remaining a front ms vs) (still ms)
      ∙ sym (ap (λ (b : Bool). keep (map f front ++ cond b (f v ∷ kept ms (map f vs)) (kept ms (map f vs))) (state_of a))
      (ne_eqb 1 m (λ u. omega (arith, u, z))))

  kept_stays : (m : ℕ) (ms : List ℕ) → eqb 1 m ≡ true
      → keep (remaining a (front ++ (v ∷ [])) ms vs) (state_of a) ≡ keep (remaining a front (m ∷ ms) (v ∷ vs)) (state_of a)
  kept_stays m ms z =
      ap (λ (l : List Pair). keep l (state_of a))
      (ap (λ (l : List Pair). l ++ kept ms (map f vs)) (map-append f front (v ∷ []))
      ∙ append_assoc (map f front) (f v ∷ []) (kept ms (map f vs))
      ∙ sym (ap (λ (b : Bool). map f front ++ cond b (f v ∷ kept ms (map f vs)) (kept ms (map f vs))) z))

-- ---- all of them: `front` were met and kept, `vs` are still to come

head_true : (a b : Bool) → (a && b) ≡ true → a ≡ true
head_true true b e = refl
head_true false b e = e

tail_true : (a b : Bool) → (a && b) ≡ true → b ≡ true
tail_true true b e = e
tail_true false b e = absurd (false≢true e)

thinned : (ms front vs : List ℕ) (x : ℕ) (a r : ListOrderedMultimap) → WellLinked a → order (rounds_of a) ≡ front ++ vs → x ≡ get_or vs 0 1024
    → length ms ≡ length vs → proper ms ≡ true → Thinned ms x a r → WellLinked r × (state_of r ≡ keep (remaining a front ms vs) (state_of a))
thinned [] front [] x a r g e i l p t =
    let all : pairs a ≡ remaining a front [] [] = ap (map (pair_at a)) e ∙ map-append (pair_at a) front [] in
    (subst WellLinked (sym t) g, ap state_of t ∙ sym (keep_all (state_of a) (all_have a g)) ∙ ap (λ (ps : List Pair). keep ps (state_of a)) all)
thinned [] front (v ∷ vs) x a r g e i l p t = absurd (omega arith)
thinned (m ∷ ms) front [] x a r g e i l p t = absurd (omega arith)
thinned (m ∷ ms) front (v ∷ vs) x a r g e i l p t =
    let t' : Thinned (m ∷ ms) v a r = subst (λ (y : ℕ). Thinned (m ∷ ms) y a r) i t in
    let o : ListOrderedMultimap = t'.0 in
    let next : at a.next_value v ≡ get_or vs 0 1024 = next_is a g front v vs e in
    let l' : length ms ≡ length vs = omega arith in
    let p' : proper ms ≡ true = tail_true (eqb 0 m || eqb 1 m) (proper ms) p in
    ⊎_elim
    (λ (z : m ≡ 0).
    let w : PairGone a v (t'.1.out z).0 o = pair_gone a g v (v_in a g front v vs e) (t'.1.out z).0 o (t'.1.out z).1 in
    let ih = thinned ms front vs (at a.next_value v) o r w.linked (w.left ∙ left_is a g front v vs e) next l' p' t'.2 in
    (ih.0, ih.1 ∙ kept_out a g front v vs e m ms z o w))
    (λ (z : m ≢ 0).
    let ih = thinned ms (front ++ (v ∷ [])) vs (at a.next_value v) a r g (e ∙ sym (append_assoc front (v ∷ []) vs)) next l' p'
    (subst (λ (q : ListOrderedMultimap). Thinned ms (at a.next_value v) q r) (t'.1.stays z) t'.2) in
    (ih.0, ih.1 ∙ kept_stays a g front v vs e m ms (is_one m (head_true (eqb 0 m || eqb 1 m) (proper ms) p) z)))
    (same_or_not m 0)

-- ---- the step

module _ (ms : List ℕ) (s : State) where
  step_count : eqb (length ms) (length s.pairs) ≡ false → step (C.retain ms) s ≡ (say (refused 7), s)
  unfolding step checks act
  step_count e = rw e

  step_value : eqb (length ms) (length s.pairs) ≡ true → proper ms ≡ false → step (C.retain ms) s ≡ (say (refused 8), s)
  unfolding step checks act
  step_value e h = rw (e, h)

  step_done : eqb (length ms) (length s.pairs) ≡ true → proper ms ≡ true
      → step (C.retain ms) s ≡ (say (C.count (length (kept ms s.pairs))), keep (kept ms s.pairs) s)
  unfolding step checks act
  step_done e h = rw (e, h)

-- ---- the call

module _ (ms : List ℕ) (a : ListOrderedMultimap) (g : WellLinked a) where
  pub does_count : length ms ≢ a.rounds.len → Does linked (C.retain ms) a (say (refused 7)) a
  does_count e = does_refuse linked (C.retain ms) a 7 g (step_count ms (state_of a) (ne_eqb _ _ (λ u. e (u ∙ length_pairs a))))

  module _ (long : length ms ≡ a.rounds.len) where
    as_long : eqb (length ms) (length (pairs a)) ≡ true
    as_long = eq-eqb _ _ (long ∙ sym (length_pairs a))

    pub does_value : proper ms ≡ false → Does linked (C.retain ms) a (say (refused 8)) a
    does_value h = does_refuse linked (C.retain ms) a 8 g (step_value ms (state_of a) as_long h)

    pub does_retain : proper ms ≡ true → (r : ListOrderedMultimap) → Thinned ms (at a.next_value 1024) a r
        → Does linked (C.retain ms) a (say (C.count r.rounds.len)) r
    does_retain fine r t =
        let d : WellLinked r × (state_of r ≡ keep (kept ms (pairs a)) (state_of a)) =
        thinned ms [] (order (rounds_of a)) (at a.next_value 1024) a r g refl
        (route_start (at a.next_value) (at a.previous_value) 1024 (order (rounds_of a)) 1024 g.chained.rounds.route)
        (long ∙ sym (length_order (rounds_of a))) fine t in
        let many : length (kept ms (pairs a)) ≡ r.rounds.len = ap (λ (s : State). length s.pairs) (sym d.1) ∙ length_pairs r in
        does_change linked (C.retain ms) a (say (C.count r.rounds.len)) (keep (kept ms (pairs a)) (state_of a)) r refl refl
        (step_done ms (state_of a) as_long fine ∙ ap (λ (y : ℕ). (say (C.count y), keep (kept ms (pairs a)) (state_of a))) many)
        d.1 d.0
