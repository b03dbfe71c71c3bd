-- One round is struck, at an end for the pops. Assumes nothing.
use Prim.Native.Nat.{ℕ, suc, ◌-◌, ◌≤◌, ◌<◌}
use mathlib.Core.Path.{◌≡◌, refl, sym, ap, ◌∙◌, subst, fun_ext}
use mathlib.Core.Logic.{◌≢◌, ⊎_elim}
use mathlib.Core.Bool.{Bool, true, false, cond, not, ◌&&◌, ◌||◌, not-not}
use mathlib.Core.List.{List, [], ◌∷◌, ◌++◌, map, append-nil, drop_last}
use mathlib.Core.Option.{some}
use native.Mathlib.Omega.{arith}
use borrow.Author.Tests.{eq-eqb, ne_eqb, eqb-true}
use lib.Dec.{eqb}
use lib.ListN.{length}
use lib.Seq.{get_or-set_same}
use Rattle.steps.specs.Lists.{filter, last?}
use Rattle.steps.specs.State.{State, Pair, has, of, leave, remove_pair, keep as keeping}
use Rattle.steps.specs.Call.{Call, Answer, popped, none, pop_front, pop_back, packs}
use Rattle.steps.specs.Step.{step, checks, act, say}
use Rattle.steps.specs.Trace.{Does}
use Rattle.steps.proofs.Doing.{does_stay, does_change}
use Rattle.steps.proofs.Filter.{filter_fuse, any_append}
use Rattle.links.specs.Route.{tally, keep, without, strip, walk}
use Rattle.links.specs.Places.{order}
use Rattle.links.specs.Links.{record_in, record_of}
use Rattle.links.proofs.Routes.{same_or_not, keep_all, keep_inside, tally_same, tally_append, Split, split_at, route_end}
use Rattle.links.proofs.Lists.{order_without, length_order}
use Rattle.links.proofs.Bare.{bare_order}
use Rattle.index.specs.Removal.{Removed}
use Rattle.multimap.specs.Map.{at, pair_at, pairs, rounds_of, members_of, links_of, state_of}
use Rattle.multimap.specs.WellLinked.{WellLinked, linked}
use Rattle.multimap.specs.declared.ListOrderedMultimap.{ListOrderedMultimap}
use Rattle.multimap.specs.Sized.{Sized}
use Rattle.multimap.proofs.Stores.{map-append}
use Rattle.multimap.specs.Strike.{Stretch, Struck, RoundPlace}
use Rattle.multimap.specs.Sweep.{idle, Sound, Sweepable, Swept}
use Rattle.multimap.specs.Popping.{pop_of, rest, PoppedAt}
use Rattle.multimap.proofs.Strikes as S
use Rattle.multimap.proofs.Sweeps as W
use Rattle.multimap.proofs.Leaving.{has_size, member_still, length_now, struck_sound, left_linked, left_state, all_have, leaves_one}

-- ---- the state

-- the pair p leaves P, and ps are the others: keeping these is what the step does
keeping_others : (s : State) (p : Pair) (ps : List Pair) → filter (λ j. has j s.pairs) s.members ≡ s.members → ((j : ℕ) → has j s.pairs ≡ (of j p || has j ps)) → keeping ps s ≡ remove_pair p ps s
keeping_others s p ps all h = ap (λ (l : List ℕ). record { pairs = ps; members = l; taken = s.taken; limits = s.limits }) (go (has p.key ps) refl)
  where
    others : (j : ℕ) → eqb j p.key ≡ false → has j ps ≡ has j s.pairs
    others j e = sym (h j ∙ ap (λ (b : Bool). b || has j ps) e)

    stays : has p.key ps ≡ true → (j : ℕ) → has j ps ≡ has j s.pairs
    stays e j = at_j (eqb j p.key) refl
      where
        at_j : (b : Bool) → eqb j p.key ≡ b → has j ps ≡ has j s.pairs
        at_j true u = ap (λ (y : ℕ). has y ps) (eqb-true j p.key u) ∙ e ∙ sym (h j ∙ ap (λ (b : Bool). b || has j ps) u)
        at_j false u = others j u

    goes : has p.key ps ≡ false → (j : ℕ) → has j ps ≡ (not (eqb p.key j) && has j s.pairs)
    goes e j =
        ⊎_elim (λ (u : j ≡ p.key). ap (λ (y : ℕ). has y ps) u ∙ e ∙ sym (ap (λ (b : Bool). not b && has j s.pairs) (eq-eqb p.key j (sym u))))
        (λ (u : j ≢ p.key). others j (ne_eqb j p.key u) ∙ sym (ap (λ (b : Bool). not b && has j s.pairs) (ne_eqb p.key j (λ v. u (sym v))))) (same_or_not j p.key)

    go : (b : Bool) → has p.key ps ≡ b → filter (λ j. has j ps) s.members ≡ cond b s.members (leave p.key s.members)
    go true e = ap (λ (f : ℕ → Bool). filter f s.members) (fun_ext (stays e)) ∙ all
    go false e =
        ap (λ (f : ℕ → Bool). filter f s.members) (fun_ext (goes e))
        ∙ filter_fuse (λ j. not (eqb p.key j)) (λ j. has j s.pairs) s.members ∙ ap (leave p.key) all

-- ---- the round in the place x leaves

or_swap : (a b c : Bool) → (a || (b || c)) ≡ (b || (a || c))
or_swap true true c = refl
or_swap true false c = refl
or_swap false b c = refl

module _ (m : ListOrderedMultimap) (x : ℕ) (h : RoundPlace m x) where
  abbrev g : WellLinked m
  g = h.linked

  abbrev vs : List ℕ
  vs = order (rounds_of m)

  abbrev key : ℕ → ℕ
  key = at m.key_index

  -- the place of its member
  abbrev place : ℕ
  place = at m.key_index x

  place_in : 0 < tally place (order (members_of m))
  place_in = g.chained.keys x h.inside

  pub round_stretch : Stretch false m x 1
  round_stretch =
      let p : Split x vs = split_at x vs h.inside in
      record { chained = g.chained; front = p.front; back = p.back; whole = p.whole }

  -- its pair and the others
  others_have : (j : ℕ) → has j (pairs m) ≡ (of j (pair_at m x) || has j (rest m x))
  others_have j =
      let p : Split x vs = split_at x vs h.inside in
      let f : ℕ → Pair = pair_at m in
      let w : without x vs ≡ p.front ++ p.back = order_without (rounds_of m) g.chained.rounds p.front x p.back p.whole in
      ap (λ (l : List ℕ). has j (map f l)) p.whole ∙ ap (has j) (map-append f p.front (x ∷ p.back)) ∙ any_append (of j) (map f p.front) (map f (x ∷ p.back))
      ∙ or_swap (has j (map f p.front)) (of j (f x)) (has j (map f p.back))
      ∙ ap (λ (b : Bool). of j (f x) || b)
      (sym (ap (λ (l : List ℕ). has j (map f l)) w ∙ ap (has j) (map-append f p.front p.back) ∙ any_append (of j) (map f p.front) (map f p.back)))

  module _ (o : ListOrderedMultimap) (s : Struck m (x ∷ []) o) where
    pub sweepable : Sweepable o (at m.key_index x) 1
    sweepable =
        let p : Split place (order (members_of o)) = split_at place (order (members_of o)) (rw (ap order s.kept.members) place_in) in
        record { sound = struck_sound m g (x ∷ []) o s; front = p.front; back = p.back; whole = p.whole }

    -- the other members keep their rounds
    others : (j : ℕ) → 0 < tally j (order (members_of o)) → j ≢ place → at o.lengths j ≢ 0
    others j i n e =
        let i' : 0 < tally j (order (members_of m)) = rw (ap order s.kept.members) at i in
        let a : record_of key j (order (rounds_of o)) ≡ record_in (links_of m) j =
        ap (record_of key j) s.left
        ∙ keep_inside (λ q. eqb (key q) j) (λ q. not (eqb q x)) vs (λ q u. ap not (ne_eqb q x (λ v. n (sym (eqb-true (key q) j u) ∙ ap key v)))) in
        omega (arith, g.some j i', ap length a, length_now m g (x ∷ []) o s j i', e)

    gone : eqb (at o.lengths place) 0 ≡ not (has (pair_at m x).key (rest m x))
    gone =
        let z : has (at m.keys place) (map (pair_at m) (order (rounds_of o))) ≡ not (eqb (at o.lengths place) 0) =
        has_size m g place place_in (order (rounds_of o)) (member_still m g (x ∷ []) o s) ∙ ap (λ (n : ℕ). not (eqb n 0)) (sym (length_now m g (x ∷ []) o s place place_in)) in
        sym (not-not (eqb (at o.lengths place) 0))
        ∙ ap not (sym z ∙ ap (λ (l : List ℕ). has (pair_at m x).key (map (pair_at m) l)) s.left)

    -- whichever members have left, so that those with a round are there
    module _ (us : List ℕ) (r : ListOrderedMultimap) (w : Swept o us r) (leavers : strip us (order (members_of o)) ≡ keep (λ j. not (eqb (at o.lengths j) 0)) (order (members_of o))) where
      taken_out : (b : Bool) → eqb (at o.lengths place) 0 ≡ b → PoppedAt m x (popped (at m.keys place) (at m.values x) b) r
      taken_out b e =
          record {
            answer = ap (popped (at m.keys place) (at m.values x)) (sym e ∙ gone);
            state =
                left_state m g (x ∷ []) o s us r w leavers ∙ ap (λ (l : List ℕ). keeping (map (pair_at m) l) (state_of m)) s.left
                ∙ keeping_others (state_of m) (pair_at m x) (rest m x) (all_have m g) others_have;
            linked = left_linked m g (x ∷ []) o s us r w leavers;
          }

    -- it was the member's last round
    pub popped_last : at o.lengths (at m.key_index x) ≡ 0 → (r : ListOrderedMultimap) → Swept o (idle o (at m.key_index x) 1) r
        → PoppedAt m x (popped (at m.keys (at m.key_index x)) (at m.values x) true) r
    popped_last e r w = taken_out (idle o place 1) r w (leaves_one (at o.lengths) place (order (members_of o)) others) true (eq-eqb (at o.lengths place) 0 e)

    -- it was not: nobody leaves
    pub popped_one : at o.lengths (at m.key_index x) ≢ 0 → PoppedAt m x (popped (at m.keys (at m.key_index x)) (at m.values x) false) o
    popped_one e =
        let stays : Swept o [] o =
        record {
          sound = struck_sound m g (x ∷ []) o s;
          left = refl;
          kept = record { keys = refl; values = refl; key_index = refl; rounds = refl; next_index = refl; previous_index = refl; lengths = refl; ledger = record { taken = refl; limits = refl } };
        } in
        let all : (j : ℕ) → 0 < tally j (order (members_of o)) → at o.lengths j ≢ 0 =
        λ j i. ⊎_elim (λ (u : j ≡ place). λ z. e (ap (at o.lengths) (sym u) ∙ z)) (others j i) (same_or_not j place) in
        taken_out [] o stays (sym (keep_all (λ j. not (eqb (at o.lengths j) 0)) (order (members_of o)) (λ j i. ap not (ne_eqb (at o.lengths j) 0 (all j i))))) false (ne_eqb (at o.lengths place) 0 e)

-- ---- the stores

module _ (m : ListOrderedMultimap) (z : Sized m) (x : ℕ) (h : RoundPlace m x) where
  abbrev k : ℕ
  k = at m.key_index x

  -- the round is struck
  abbrev pub taken : ListOrderedMultimap
  taken = S.r m z h.linked.chained x h.inside

  pub round_bounds : S.Bounds m x
  round_bounds = S.bounds m z h.linked.chained x h.inside

  pub round_struck : Struck m (x ∷ []) taken
  round_struck =
      let t = round_stretch m x h in
      S.turned_all false m x 1 t [] 1 _ taken (S.turned_struck false m x 1 t [] 0 x m (S.turned_none false m x 1 t [] z) (omega arith) _ refl refl) (omega arith)

  size_now : at taken.lengths k ≡ at m.lengths k - 1
  size_now = get_or-set_same m.lengths k (at m.lengths k - 1) 0 (rw z.lengths round_bounds.key)

  -- its member has more
  pub stored_one : 1 < at m.lengths (at m.key_index x) → PoppedAt m x (popped (at m.keys (at m.key_index x)) (at m.values x) false) taken
  stored_one e = popped_one m x h taken round_struck (λ u. omega (arith, size_now, u, e))

  pub now_sized : Sized taken
  now_sized = S.sized_now m z h.linked.chained x h.inside

  pub now_sound : Sound taken
  now_sound = struck_sound m h.linked (x ∷ []) taken round_struck

  pub k_in : 0 < tally k (order (members_of m))
  k_in = place_in m x h

  -- and the member, with its last round
  module _ (e : at m.lengths (at m.key_index x) ≤ 1) (closed : List ℕ) (shut : Removed m.index m.keys (at m.keys (at m.key_index x)) closed) where
    none_left : at taken.lengths k ≡ 0
    none_left = omega (arith, size_now, e)

    abbrev pub taken_both : ListOrderedMultimap
    taken_both = W.r taken now_sized now_sound k k_in closed

    both_swept : Swept taken (idle taken k 1) taken_both
    both_swept =
        let w = sweepable m x h taken round_struck in
        let t = W.turned_none taken k 1 w now_sized in
        W.turned_all taken k 1 w 1 _ taken_both
        (W.turned_left taken k 1 w 0 k taken t (omega arith) none_left closed (W.shut_gap taken taken t.kept now_sound k k_in closed shut)) (omega arith)

    pub stored_both : PoppedAt m x (popped (at m.keys (at m.key_index x)) (at m.values x) true) taken_both
    stored_both = popped_last m x h taken round_struck none_left taken_both both_swept

-- ---- the steps

step_front : (s : State) (p : Pair) (ps : List Pair) → s.pairs ≡ p ∷ ps → step pop_front s ≡ (say (popped p.key p.value (not (has p.key ps))), remove_pair p ps s)
unfolding step checks act
step_front s p ps e = rw e

last_is : (ps : List Pair) (p : Pair) → last? (ps ++ p ∷ []) ≡ some p
last_is [] p = refl
last_is (q ∷ []) p = refl
last_is (q ∷ r ∷ ps) p = last_is (r ∷ ps) p

without_last : (ps : List Pair) (p : Pair) → drop_last (ps ++ p ∷ []) ≡ ps
without_last [] p = refl
without_last (q ∷ []) p = refl
without_last (q ∷ r ∷ ps) p = ap (λ (l : List Pair). q ∷ l) (without_last (r ∷ ps) p)

step_back : (s : State) (p : Pair) (ps : List Pair) → s.pairs ≡ ps ++ p ∷ [] → step pop_back s ≡ (say (popped p.key p.value (not (has p.key ps))), remove_pair p ps s)
unfolding step checks act
step_back s p ps e = rw (e, last_is ps p, without_last ps p)

step_front_none : (s : State) → s.pairs ≡ [] → step pop_front s ≡ (say none, s)
unfolding step checks act
step_front_none s e = rw e

step_back_none : (s : State) → s.pairs ≡ [] → step pop_back s ≡ (say none, s)
unfolding step checks act
step_back_none s e = rw e

-- ---- the calls

module _ (m : ListOrderedMultimap) (g : WellLinked m) where
  no_pairs : m.rounds.len ≡ 0 → pairs m ≡ []
  no_pairs e = ap (map (pair_at m)) (bare_order (rounds_of m) e)

  pub front_none : m.rounds.len ≡ 0 → Does linked pop_front m (say none) m
  front_none e = does_stay linked pop_front m (say none) refl g (step_front_none (state_of m) (no_pairs e))

  pub back_none : m.rounds.len ≡ 0 → Does linked pop_back m (say none) m
  back_none e = does_stay linked pop_back m (say none) refl g (step_back_none (state_of m) (no_pairs e))

  -- the place x, where the call's step takes its pair
  popped_so : (c : Call) → packs c ≡ false → (x : ℕ) → step c (state_of m) ≡ (say (popped (pair_at m x).key (pair_at m x).value (not (has (pair_at m x).key (rest m x)))), remove_pair (pair_at m x) (rest m x) (state_of m))
      → (a : Answer) (r : ListOrderedMultimap) → PoppedAt m x a r → Does linked c m (say a) r
  popped_so c k x e a r p =
      subst (λ y. Does linked c m (say y) r) (sym p.answer)
      (does_change linked c m _ (remove_pair (pair_at m x) (rest m x) (state_of m)) r k refl e p.state p.linked)

  module _ (some : m.rounds.len ≢ 0) where
    abbrev ws : List ℕ
    ws = order (rounds_of m)

    inside : (xs ys : List ℕ) (x : ℕ) → order (rounds_of m) ≡ xs ++ x ∷ ys → RoundPlace m x
    inside xs ys x e = record { linked = g; inside = omega (arith, ap (tally x) e, tally_append x xs (x ∷ ys), tally_same x ys) }

    -- the first
    abbrev x : ℕ
    x = at m.next_value 1024

    abbrev ys : List ℕ
    ys = walk (at m.next_value) (at m.next_value x) (m.rounds.len - 1)

    front : ws ≡ x ∷ ys
    front = let e : m.rounds.len ≡ suc (m.rounds.len - 1) = omega arith in ap (walk (at m.next_value) x) e

    pub front_round : RoundPlace m (at m.next_value 1024)
    front_round = inside [] ys x front

    pub front_popped : (a : Answer) (r : ListOrderedMultimap) → PoppedAt m (at m.next_value 1024) a r → Does linked pop_front m (say a) r
    front_popped = popped_so pop_front refl x (step_front (state_of m) (pair_at m x) (rest m x) (ap (map (pair_at m)) (front ∙ ap (λ (l : List ℕ). x ∷ l) (sym (order_without (rounds_of m) g.chained.rounds [] x ys front)))))

    -- the last
    abbrev z : ℕ
    z = at m.previous_value 1024

    back : (xs : List ℕ) × (ws ≡ xs ++ z ∷ [])
    back = route_end (at m.next_value) (at m.previous_value) 1024 ws 1024 g.chained.rounds.route (omega (arith, length_order (rounds_of m)))

    pub back_round : RoundPlace m (at m.previous_value 1024)
    back_round = inside back.0 [] z back.1

    pub back_popped : (a : Answer) (r : ListOrderedMultimap) → PoppedAt m (at m.previous_value 1024) a r → Does linked pop_back m (say a) r
    back_popped =
        popped_so pop_back refl z
        (step_back (state_of m) (pair_at m z) (rest m z)
        (ap (map (pair_at m)) (back.1 ∙ ap (λ (l : List ℕ). l ++ z ∷ []) (sym (order_without (rounds_of m) g.chained.rounds back.0 z [] back.1 ∙ append-nil back.0))) ∙ map-append (pair_at m) (without z ws) (z ∷ [])))

-- the one pop or the other
module _ (m : ListOrderedMultimap) (g : WellLinked m) where
  pub pop_none : (b : Bool) → m.rounds.len ≡ 0 → Does linked (pop_of b) m (say none) m
  pop_none true = front_none m g
  pop_none false = back_none m g

  module _ (e : m.rounds.len ≢ 0) (x : ℕ) where
    pub pop_round : (b : Bool) → x ≡ cond b (at m.next_value 1024) (at m.previous_value 1024) → RoundPlace m x
    pop_round true i = rw i (front_round m g e)
    pop_round false i = rw i (back_round m g e)

    pub pop_popped : (b : Bool) → x ≡ cond b (at m.next_value 1024) (at m.previous_value 1024)
        → (a : Answer) (r : ListOrderedMultimap) → PoppedAt m x a r → Does linked (pop_of b) m (say a) r
    pop_popped true i a r p = front_popped m g e a r (subst (λ (y : ℕ). PoppedAt m y a r) i p)
    pop_popped false i a r p = back_popped m g e a r (subst (λ (y : ℕ). PoppedAt m y a r) i p)
