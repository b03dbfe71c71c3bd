-- Pairs appended one after the other to a new map: the turns of `restore`. Assumes nothing.
use Prim.Native.Nat.{ℕ, zero, suc, ◌+◌, ◌*◌, ◌≤◌, ◌<◌, min}
use mathlib.Core.Path.{◌≡◌, refl, sym, ap, ◌∙◌, subst}
use mathlib.Core.Bool.{Bool, true, false, cond, not, ◌&&◌}
use mathlib.Core.List.{List, [], ◌∷◌, ◌++◌, append_assoc}
use native.Mathlib.Omega.{arith}
use native.Mathlib.Numerals.{add-one}
use borrow.Author.Tests.{lt-leb, leb-true}
use lib.Dec.{eqb}
use lib.ListN.{length, get_or, take, drop, length-append, take-append-drop}
use lib.Seq.{take_all, length-take-le}
use Rattle.steps.specs.Lists.{any}
use Rattle.steps.specs.State as St
use Rattle.steps.specs.State.{State, Limits, Pair, empty, add, full, crowded, max_rounds}
use Rattle.steps.specs.Marked.{◌∶◌, firsts, start}
use Rattle.steps.specs.Call.{Outcome, append, present, refused}
use Rattle.steps.specs.Step.{step, checks, act, settle, refusal, say, refusing}
use Rattle.steps.specs.Trace.{Does}
use Rattle.multimap.specs.declared.ListOrderedMultimap.{ListOrderedMultimap}
use Rattle.multimap.specs.Map.{state_of}
use Rattle.multimap.specs.WellLinked.{WellLinked, linked}
use Rattle.image.specs.Bytes.{numbers}
use Rattle.image.specs.Image.{pair_up}
use Rattle.image.proofs.Numbers.{length_numbers}

-- ---- members and rounds as pairs

pub length_paired : (ks vs : List ℕ) → length ks ≡ length vs → length (pair_up ks vs) ≡ length ks
length_paired [] vs e = refl
length_paired (k ∷ ks) [] e = absurd (omega arith)
length_paired (k ∷ ks) (v ∷ vs) e = ap suc (length_paired ks vs (omega arith))

take_paired : (ks vs : List ℕ) (i : ℕ) → i < length ks → length ks ≡ length vs
    → take (suc i) (pair_up ks vs) ≡ take i (pair_up ks vs) ++ (get_or ks i 0 ∶ get_or vs i 0 ∷ [])
take_paired [] vs i h e = absurd (omega arith)
take_paired (k ∷ ks) [] i h e = absurd (omega arith)
take_paired (k ∷ ks) (v ∷ vs) zero h e = refl
take_paired (k ∷ ks) (v ∷ vs) (suc i) h e = ap (λ (l : List Pair). k ∶ v ∷ l) (take_paired ks vs i (omega arith) (omega arith))

-- ---- the state of pairs that are added to an empty one

firsts_append : (met : List ℕ) (ps qs : List Pair) → firsts met (ps ++ qs) ≡ firsts (firsts met ps) qs
firsts_append met [] qs = refl
firsts_append met (p ∷ ps) qs = firsts_append (cond (any (eqb p.key) met) met (met ++ (p.key ∷ []))) ps qs

-- one pair more, which the poster 0 adds
start_add : (l : Limits) (ps : List Pair) (k v : ℕ) → length ps < max_rounds → start l (ps ++ (k ∶ v ∷ [])) ≡ add 0 k v (start l ps)
start_add l ps k v h =
    let t : length (ps ++ (k ∶ v ∷ [])) ≡ min (length ps + 1) 4294967295 = omega (arith, length-append ps (k ∶ v ∷ [])) in
    rw (firsts_append [] ps (k ∶ v ∷ []), t)

-- those met stay
firsts_more : (met : List ℕ) (ps : List Pair) → length met ≤ length (firsts met ps)
firsts_more met [] = omega arith
firsts_more met (p ∷ ps) = go (any (eqb p.key) met) (firsts_more met ps) (firsts_more (met ++ (p.key ∷ [])) ps)
  where
    go : (b : Bool) → length met ≤ length (firsts met ps) → length (met ++ (p.key ∷ [])) ≤ length (firsts (met ++ (p.key ∷ [])) ps)
        → length met ≤ length (firsts (cond b met (met ++ (p.key ∷ []))) ps)
    go true f g = f
    go false f g = omega (arith, length-append met (p.key ∷ []))

-- a new member, with as many met as the limit is
firsts_many : (l : Limits) (ps qs : List Pair) (k v : ℕ) → St.absent k (start l ps) ≡ true → crowded (start l ps) ≡ true
    → l.members < length (firsts [] (ps ++ (k ∶ v ∷ qs)))
firsts_many l ps qs k v a c =
    go (St.present k (start l ps)) refl a
  where
    go : (b : Bool) → any (eqb k) (firsts [] ps) ≡ b → not b ≡ true → l.members < length (firsts [] (ps ++ (k ∶ v ∷ qs)))
    go true e z = absurd (let y : ◌≡◌ {A = ℕ} 0 1 = cc in omega arith)
    go false e z =
        rw (firsts_append [] ps (k ∶ v ∷ qs), e)
        (omega (arith, leb-true l.members (length (firsts [] ps)) c, firsts_more (firsts [] ps ++ (k ∷ [])) qs, length-append (firsts [] ps) (k ∷ [])))

-- ---- what an append of the poster 0 does where there is room for a round

data Appended (k v : ℕ) (s : State) : Outcome × State → Type 0 where
  taken : Appended k v s (say (present (St.present k s)), add 0 k v s)
  crowd : St.absent k s ≡ true → crowded s ≡ true → Appended k v s (refusing (append 0 k v) 2, s)

settled : (k v : ℕ) (s : State) (a c : Bool) → St.absent k s ≡ a → crowded s ≡ c
    → Appended k v s (settle (refusal ((a && c, 2) ∷ [])) (append 0 k v) s)
unfolding act
settled k v s true true e f = crowd e f
settled k v s true false e f = taken
settled k v s false c e f = taken

appended : (k v : ℕ) (s : State) → full s ≡ false → Appended k v s (step (append 0 k v) s)
unfolding step checks
appended k v s f = rw f (settled k v s (St.absent k s) (crowded s) refl refl)

-- an append that is not refused adds the pair; one that is has no room for its member
added : (k v : ℕ) (m r : ListOrderedMultimap) (b : Bool) → full (state_of m) ≡ false → Does linked (append 0 k v) m (say (present b)) r
    → state_of r ≡ add 0 k v (state_of m)
added k v m r b f d = go (step (append 0 k v) (state_of m)) (appended k v (state_of m) f) d.outcome d.state
  where
    go : (o : Outcome × State) → Appended k v (state_of m) o → say (present b) ≡ o.0 → state_of r ≡ o.1 → state_of r ≡ add 0 k v (state_of m)
    go o taken e i = i
    go o (crowd a c) e i = absurd (let z : ◌≡◌ {A = ℕ} 0 1 = cc (ap (λ (o : Outcome). o.answer) e) in omega arith)

stuck : (k v : ℕ) (m r : ListOrderedMultimap) (n : ℕ) → full (state_of m) ≡ false → Does linked (append 0 k v) m (say (refused n)) r
    → (St.absent k (state_of m) ≡ true) × (crowded (state_of m) ≡ true)
stuck k v m r n f d = go (step (append 0 k v) (state_of m)) (appended k v (state_of m) f) d.outcome
  where
    go : (o : Outcome × State) → Appended k v (state_of m) o → say (refused n) ≡ o.0 → (St.absent k (state_of m) ≡ true) × (crowded (state_of m) ≡ true)
    go o taken e = absurd (let z : ◌≡◌ {A = ℕ} 0 1 = cc (ap (λ (o : Outcome). o.answer) e) in omega arith)
    go o (crowd a c) e = (a, c)

-- ---- the turns: of the n pairs that the bytes s say

module _ (l : Limits) (s : List ℕ) (n : ℕ) where
  abbrev ks : List ℕ
  ks = numbers n (drop 8 s)

  abbrev vs : List ℕ
  vs = numbers n (drop (8 + 8 * n) s)

  -- after i pairs
  pub record Building (i : ℕ) (m : ListOrderedMultimap) : Type 0 where
    pub linked : WellLinked m
    pub state : state_of m ≡ start l (take i (pair_up ks vs))

  same : length ks ≡ length vs
  same = length_numbers n (drop 8 s) ∙ sym (length_numbers n (drop (8 + 8 * n) s))

  many : length (pair_up ks vs) ≡ n
  many = length_paired ks vs same ∙ length_numbers n (drop 8 s)

  module _ {i : ℕ} {m : ListOrderedMultimap} (b : Building i m) where
    -- the state of all pairs
    pub building_all : n ≤ i → state_of m ≡ start l (pair_up ks vs)
    building_all h = b.state ∙ ap (start l) (take_all i (pair_up ks vs) (omega (arith, many)))

    module _ (top : l.rounds ≤ max_rounds) (few : n ≤ l.rounds) (h : i < n) {k v : ℕ} (ek : k ≡ get_or ks i 0) (ev : v ≡ get_or vs i 0) where
      abbrev ps : List Pair
      ps = take i (pair_up ks vs)

      so_many : length ps ≡ i
      so_many = length-take-le i (pair_up ks vs) (omega (arith, many))

      one_more : take (suc i) (pair_up ks vs) ≡ ps ++ (k ∶ v ∷ [])
      one_more = rw (ek, ev) (take_paired ks vs i (rw (length_numbers n (drop 8 s)) h) same)

      room : full (state_of m) ≡ false
      room = ap full b.state ∙ lt-leb l.rounds (length ps) (omega (arith, so_many))

      pub building_one : {p : Bool} {r : ListOrderedMultimap} → Does linked (append 0 k v) m (say (present p)) r → Building (i + 1) r
      building_one {p} {r} d =
          record {
            linked = d.linked;
            state =
                added k v m r p room d ∙ ap (add 0 k v) b.state ∙ sym (start_add l ps k v (omega (arith, so_many))) ∙ ap (start l) (sym one_more)
                ∙ ap (λ (j : ℕ). start l (take j (pair_up ks vs))) (sym (add-one i));
          }

      -- then there are more members than the limit
      pub building_stuck : {x : ℕ} {r : ListOrderedMultimap} → Does linked (append 0 k v) m (say (refused x)) r → l.members < length (firsts [] (pair_up ks vs))
      building_stuck {x} {r} d =
          let rest : List Pair = drop (suc i) (pair_up ks vs) in
          let whole : ps ++ (k ∶ v ∷ rest) ≡ pair_up ks vs =
          sym (append_assoc ps (k ∶ v ∷ []) rest) ∙ ap (λ (l : List Pair). l ++ rest) (sym one_more)
          ∙ take-append-drop (suc i) (pair_up ks vs) in
          let w = stuck k v m r x room d in
          subst (λ (qs : List Pair). l.members < length (firsts [] qs)) whole
          (firsts_many l ps rest k v (ap (St.absent k) (sym b.state) ∙ w.0) (ap crowded (sym b.state) ∙ w.1))
