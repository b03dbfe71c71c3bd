-- What `remove_record` makes of the map, and `remove` over it. Assumes nothing.
use Prim.Native.Nat.{ℕ, zero, suc, ◌+◌, ◌-◌, ◌≤◌, ◌<◌}
use mathlib.Core.Path.{◌≡◌, refl, sym, ap, ◌∙◌, subst}
use mathlib.Core.Bool.{Bool, true, false, not, ◌||◌}
use mathlib.Core.List.{List, [], ◌∷◌, map}
use native.Mathlib.Omega.{arith}
use lib.Dec.{eqb}
use lib.ListN.{length, get_or}
use Rattle.steps.specs.State.{State, Pair, has, of, others, rounds, remove_member, keep as keeping}
use Rattle.steps.specs.Call.{remove, none, round}
use Rattle.steps.specs.Step.{step, checks, act, say, first}
use Rattle.steps.specs.Trace.{Does}
use Rattle.steps.proofs.Doing.{does_stay, does_change}
use Rattle.steps.proofs.Removals.{keep_all, keep_others}
use Rattle.links.specs.Route.{pick, tally, keep, without, strip, Route}
use Rattle.links.specs.Places.{order}
use Rattle.links.specs.Links.{record_of, record_in}
use Rattle.links.specs.Stores.{at}
use Rattle.links.proofs.Routes.{tally_same, route_start, keep_same, keep_swap, without_split}
use Rattle.links.proofs.Lists.{order_distinct}
use Rattle.links.proofs.Chains.{in_record, record_once}
use Rattle.links.proofs.Strips.{strip_those}
use Rattle.index.specs.Search.{search as searched}
use Rattle.index.specs.declared.KeyPlace.{KeyPlace}
use Rattle.index.specs.declared.Found.TheVariants.{At, Absent}
use Rattle.multimap.specs.declared.ListOrderedMultimap.{ListOrderedMultimap}
use Rattle.multimap.specs.Changes.{base_of, Left}
use Rattle.multimap.specs.Map.{pair_at, pairs, rounds_of, members_of, links_of, state_of}
use Rattle.multimap.specs.Popping.{PairGone}
use Rattle.multimap.specs.WellLinked.{WellLinked, linked}
use Rattle.multimap.proofs.Additions.{base_is}
use Rattle.multimap.proofs.Keeping.{gone_keep}
use Rattle.multimap.proofs.Leaves.{pair_gone}
use Rattle.multimap.proofs.Leaving.{all_have}
use Rattle.multimap.proofs.Records.{Member, NoMember, found, not_found, first_round, own_round, filter_map}
use Rattle.removing.specs.Expel.{Expelled, RecordOut}

-- ---- the turns: with i of n rounds gone, and the place x next, what the others make of o is what all make of a

pub record Going (n q : ℕ) (a : ListOrderedMultimap) (i x : ℕ) (o : ListOrderedMultimap) : Type 0 where
  pub whole : (r : ListOrderedMultimap) → Expelled (n - i) x o r → Expelled n q a r

module _ {n q : ℕ} {a : ListOrderedMultimap} {i x : ℕ} {o : ListOrderedMultimap} (g : Going n q a i x o) where
  pub goes_on : i < n → {next : ℕ} → next ≡ at o.next_index x → (gone : Bool) (o' : ListOrderedMultimap) → Left o x gone o'
      → Going n q a (i + 1) next o'
  goes_on h e gone o' d =
      let z : suc (n - (i + 1)) ≡ n - i = omega arith in
      let last : (r : ListOrderedMultimap) → Expelled (n - (i + 1)) _ o' r → Expelled (n - i) x o r =
      λ r t. subst (λ (j : ℕ). Expelled j x o r) z (o', gone, d, subst (λ (y : ℕ). Expelled (n - (i + 1)) y o' r) e t) in
      record { whole = λ r t. g.whole r (last r t) }

-- ---- lists

module _ (f : ℕ → Pair) (j : ℕ) where
  keep_has : (g : ℕ → Bool) (l : List ℕ) → has j (map f (keep g l)) ≡ true → has j (map f l) ≡ true
  keep_has g [] e = e
  keep_has g (v ∷ vs) e = go (g v) (of j (f v)) refl (keep_has g vs) e
    where
      go : (b c : Bool) → of j (f v) ≡ c → (has j (map f (keep g vs)) ≡ true → has j (map f vs) ≡ true)
          → has j (map f (pick b (v ∷ keep g vs) (keep g vs))) ≡ true → (c || has j (map f vs)) ≡ true
      go true true q ih e = refl
      go false true q ih e = refl
      go true false q ih e = ih (sym (ap (λ (b : Bool). b || has j (map f (keep g vs))) q) ∙ e)
      go false false q ih e = ih e

  strip_has : (ws l : List ℕ) → has j (map f (strip ws l)) ≡ true → has j (map f l) ≡ true
  strip_has [] l e = e
  strip_has (w ∷ ws) l e = keep_has (λ q. not (eqb q w)) l (strip_has ws (without w l) e)

-- ---- the first round of the record of the member place k

module _ (a : ListOrderedMultimap) (g : WellLinked a) (k v : ℕ) (vs : List ℕ) (e : record_in (links_of a) k ≡ v ∷ vs) where
  abbrev us : List ℕ
  us = order (rounds_of a)

  abbrev key : ℕ → ℕ
  key = at a.key_index

  v_in : 0 < tally v (record_in (links_of a) k)
  v_in = omega (arith, ap (tally v) e, tally_same v vs)

  v_round : 0 < tally v (order (rounds_of a))
  v_round = omega (arith, v_in, record_once key k v us)

  k_in : 0 < tally k (order (members_of a))
  k_in = subst (λ (y : ℕ). 0 < tally y (order (members_of a))) (in_record key k v us v_in) (g.chained.keys v v_round)

  next_is : at a.next_index v ≡ get_or vs 0 (1024 + k)
  next_is =
      route_start (at a.next_index) (at a.previous_index) v vs (1024 + k)
      (subst (λ (l : List ℕ). Route (at a.next_index) (at a.previous_index) (1024 + k) l (1024 + k)) e (g.chained.chain k k_in)).2

  once : (q : ℕ) → tally q (v ∷ vs) ≤ 1
  once q = omega (arith, ap (tally q) e, record_once key k q us, order_distinct (rounds_of a) g.chained.rounds q)

  module _ {gone : Bool} (o : ListOrderedMultimap) (w : PairGone a v gone o) where
    record_now : record_in (links_of o) k ≡ vs
    record_now =
        ap (λ (l : List ℕ). record_of (at l) k (order (rounds_of o))) w.key_index ∙ ap (record_of key k) w.left
        ∙ keep_swap (λ q. eqb (key q) k) (λ q. not (eqb q v)) us ∙ ap (without v) e ∙ without_split v [] vs once

    -- what is kept where the others leave too
    kept_now : keeping (map (pair_at o) (strip vs (order (rounds_of o)))) (state_of o)
        ≡ keeping (map (pair_at a) (strip (v ∷ vs) (order (rounds_of a)))) (state_of a)
    kept_now =
        ap (λ (h : ℕ → Pair). keeping (map h (strip vs (order (rounds_of o)))) (state_of o)) w.same
        ∙ ap (λ (l : List ℕ). keeping (map (pair_at a) (strip vs l)) (state_of o)) w.left
        ∙ gone_keep a g v v_round o w (map (pair_at a) (strip (v ∷ vs) us)) (λ j. strip_has (pair_at a) j vs (without v us))

-- ---- all of them

expelled : (n : ℕ) (vs : List ℕ) (q k : ℕ) (a r : ListOrderedMultimap) → WellLinked a → record_in (links_of a) k ≡ vs → n ≡ length vs
    → q ≡ get_or vs 0 (1024 + k) → Expelled n q a r
    → WellLinked r × (state_of r ≡ keeping (map (pair_at a) (strip vs (order (rounds_of a)))) (state_of a))
expelled zero [] q k a r g e l i t = (subst WellLinked (sym t) g, ap state_of t ∙ sym (keep_all (state_of a) (all_have a g)))
expelled zero (v ∷ vs) q k a r g e l i t = absurd (omega arith)
expelled (suc n) [] q k a r g e l i t = absurd (omega arith)
expelled (suc n) (v ∷ vs) q k a r g e l i t =
    let t' : Expelled (suc n) v a r = subst (λ (y : ℕ). Expelled (suc n) y a r) i t in
    let o : ListOrderedMultimap = t'.0 in
    let w : PairGone a v t'.1 o = pair_gone a g v (v_round a g k v vs e) t'.1 o t'.2 in
    let now : record_in (links_of o) k ≡ vs = record_now a g k v vs e o w in
    let ih = expelled n vs (at a.next_index v) k o r w.linked now (omega arith) (next_is a g k v vs e) t'.3 in
    (ih.0, ih.1 ∙ kept_now a g k v vs e o w)

-- ---- the record of a member

module _ (a : ListOrderedMultimap) (g : WellLinked a) (k x : ℕ) (m : Member a k x) where
  abbrev R : List ℕ
  R = record_in (links_of a) x

  others_left : map (pair_at a) (strip (record_in (links_of a) x) (order (rounds_of a))) ≡ others k (pairs a)
  others_left =
      ap (map (pair_at a)) (strip_those (λ q. eqb (at a.key_index q) x) (order (rounds_of a))
      ∙ sym (keep_same (λ q. not (of k (pair_at a q))) (λ q. not (eqb (at a.key_index q) x)) (order (rounds_of a))
      (λ q i. ap not (subst (λ (j : ℕ). of j (pair_at a q) ≡ eqb (at a.key_index q) x) m.number (own_round a g x q m.member i)))))
      ∙ sym (filter_map (λ p. not (of k p)) (pair_at a) (order (rounds_of a)))

  -- the member's place is x: with its rounds it has left
  pub record_out : (r : ListOrderedMultimap) → RecordOut a x r → WellLinked r × (state_of r ≡ remove_member k (state_of a))
  record_out r t =
      let q : at a.next_index (base_of x) ≡ get_or R 0 (1024 + x) =
      ap (at a.next_index) (base_is x m.inside)
      ∙ route_start (at a.next_index) (at a.previous_index) (1024 + x) R (1024 + x) m.route in
      let d = expelled (at a.lengths x) R (at a.next_index (base_of x)) x a r g refl m.size q t in
      (d.0, d.1 ∙ ap (λ (ps : List Pair). keeping ps (state_of a)) others_left ∙ keep_others k (state_of a) (all_have a g))

-- ---- the call

step_remove : (k : ℕ) (s : State) → step (remove k) s ≡ (say (first (rounds k s.pairs)), remove_member k s)
unfolding step checks act
step_remove k s = refl

module _ (a : ListOrderedMultimap) (g : WellLinked a) (k : ℕ) where
  pub same_state : NoMember a k → remove_member k (state_of a) ≡ state_of a
  same_state h = rw (h.others, h.leave)

  pub does_none : (p n : ℕ) → searched a.index a.keys k ≡ Absent p n → Does linked (remove k) a (say none) a
  does_none p n f =
      let h : NoMember a k = not_found a g k p n f in
      does_stay linked (remove k) a (say none) refl g (step_remove k (state_of a) ∙ rw (h.rounds, same_state h))

  -- y is the member's place, h its head, v the round there
  pub does_remove : (p n : ℕ) (y : KeyPlace) → searched a.index a.keys k ≡ At p y n
      → {h v : ℕ} → h ≡ at a.next_index (base_of y) → v ≡ at a.values h
      → (r : ListOrderedMultimap) → RecordOut a y r → Does linked (remove k) a (say (round v)) r
  does_remove p n y f {v = v} h_is v_is r t =
      let m : Member a k y = found a g k p n y f in
      let d = record_out a g k y m r t in
      let v_first : first (rounds k (pairs a)) ≡ round v =
      first_round a g k y m ∙ ap round (sym (v_is ∙ ap (at a.values) (h_is ∙ ap (at a.next_index) (base_is y m.inside)))) in
      does_change linked (remove k) a (say (round v)) (remove_member k (state_of a)) r refl refl
      (step_remove k (state_of a) ∙ rw v_first) d.1 d.0
