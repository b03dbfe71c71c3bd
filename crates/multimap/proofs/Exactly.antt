-- A map is well-linked exactly when its arrays represent some P and K as module 6 of document 01 has it; and these are the map's own P and K.
-- Assumes nothing.
use Prim.Native.Nat.{ℕ, zero, suc, ◌+◌, ◌-◌, ◌<◌, ◌≤◌}
use mathlib.Core.Path.{◌≡◌, refl, sym, ap, subst, ◌∙◌}
use mathlib.Core.Logic.{◌≢◌, inl, inr, ⊎_elim}
use mathlib.Core.Bool.{Bool, true, false, cond}
use mathlib.Core.List.{List, [], ◌∷◌, ◌++◌, map, Memᴰ}
use native.Mathlib.Omega.{arith}
use borrow.Author.Tests.{lt-ltb, le-ltb}
use lib.Dec.{eqb, ltb}
use lib.ListN.{length, length-append, length-map, get_or}
use Rattle.steps.specs.Lists.{filter, any}
use Rattle.steps.specs.State.{Pair, of, has}
use Rattle.steps.specs.Accounting.{times}
use Rattle.steps.proofs.Filter.{any_one}
use Rattle.links.specs.Route.{bit, tally, keep, walk, Route}
use Rattle.links.specs.Places.{Places, order, freed, Linked}
use Rattle.links.specs.Links.{Chained, record_in}
use Rattle.links.proofs.Routes.{same_or_not, tally_append, tally_hit, tally_other, keep_same, route_walk, split_at}
use Rattle.links.proofs.Lists.{length_walk, length_order, in_array}
use Rattle.index.specs.declared.KeyPlace.{KeyPlace}
use Rattle.index.specs.declared.Found.{Found}
use Rattle.index.specs.declared.Found.TheVariants.{At, Absent}
use Rattle.index.specs.Table.{Holds, home, dist}
use Rattle.index.specs.Search.{search as searched}
use Rattle.index.specs.Agree.{FoundKey, Decides}
use Rattle.index.proofs.Agree.{Reached, reached, found_key, decides_map}
use Rattle.index.proofs.Cycle.{dist_inj}
use Rattle.index.proofs.Search.{home_lt}
use Rattle.index.proofs.Finds.{says_at, says_absent}
use Rattle.index.proofs.Pigeon.{less_or_not}
use Rattle.multimap.specs.Map.{at, pair_at, pairs, members, rounds_of, members_of, links_of}
use Rattle.multimap.specs.WellLinked.{WellLinked, Counted, Limited}
use Rattle.multimap.specs.declared.ListOrderedMultimap.{ListOrderedMultimap}
use Rattle.multimap.specs.Represents.{InUse, LeadsTo, Represents, Represented}
use Rattle.multimap.proofs.Stores.{any_some, mem_tally, tally_mem, length_pairs, length_members}
use Rattle.multimap.proofs.Records.{filter_map, same_number, places_are, member_at}
use Rattle.multimap.proofs.Represents as proper

-- ---- places in use and freed

-- n numbers among which each below n is: each of these stands once, and no other
covered : (n : ℕ) (xs : List ℕ) → ((q : ℕ) → q < n → 0 < tally q xs) → length xs ≡ n → (q : ℕ) → tally q xs ≡ bit (ltb q n)
covered zero [] h e q = sym (ap bit (le-ltb q 0 (omega arith)))
covered zero (x ∷ xs) h e q = absurd (omega arith)
covered (suc n) xs h e q =
    let s = split_at n xs (h n (omega arith)) in
    let ys : List ℕ = s.front ++ s.back in
    let counts : (j : ℕ) → tally j xs ≡ tally j s.front + tally j (n ∷ s.back) =
    λ j. ap (tally j) s.whole ∙ tally_append j s.front (n ∷ s.back) in
    let long : length ys ≡ n =
    omega (arith, e, ap length s.whole, length-append s.front (n ∷ s.back), length-append s.front s.back) in
    let rest = covered n ys
    (λ j i. omega (arith, h j (omega arith), counts j, tally_other j n s.back (below j i), tally_append j s.front s.back)) long in
    ⊎_elim
    (λ (i : q ≡ n). rw (lt-ltb q (suc n) (omega arith))
    (omega (arith, counts q, tally_hit q n s.back i, tally_append q s.front s.back, rest q, ap bit (le-ltb q n (omega arith)))))
    (λ (i : q ≢ n). omega (arith, counts q, tally_other q n s.back i, tally_append q s.front s.back, rest q, ap bit (same i)))
    (same_or_not q n)
  where
    below : (j : ℕ) → j < n → j ≢ n
    below j i f = omega arith

    same : q ≢ n → ltb q n ≡ ltb q (suc n)
    same i =
        ⊎_elim (λ (l : q < n). lt-ltb q n l ∙ sym (lt-ltb q (suc n) (omega arith)))
        (λ (l : n ≤ q). le-ltb q n l ∙ sym (le-ltb q (suc n) (⊎_elim (λ (w : n < q). omega arith) (λ (w : q ≤ n). absurd (i (omega arith))) (less_or_not n q))))
        (less_or_not q n)

module _ (l : Places) where
  in_use : Linked l → InUse l (order l)
  in_use h =
      record {
        linked = h.route;
        counted = sym (length_order l);
        few = h.some_used;
        fits = h.some_fresh;
        others =
            λ q i.
            ⊎_elim (λ (z : 0 < tally q (order l)). inl z)
            (λ (z : tally q (order l) ≤ 0). inr (omega (arith, h.once q, ap bit (lt-ltb q l.fresh i)))) (less_or_not 0 (tally q (order l)));
      }

  module _ (xs : List ℕ) (u : InUse l xs) where
    order_is : order l ≡ xs
    order_is = ap (walk l.next (l.next l.root)) u.counted ∙ route_walk l.next l.prev l.root xs l.root u.linked

    linked_so : Linked l
    linked_so =
        record {
          route = subst (λ (ys : List ℕ). Route l.next l.prev l.root ys l.root) (sym order_is) u.linked;
          once =
              λ q.
              sym (tally_append q (order l) (freed l))
              ∙ covered l.fresh (order l ++ freed l)
              (λ j i. subst (λ (n : ℕ). 0 < n) (sym (tally_append j (order l) (freed l)))
              (⊎_elim (λ (z : 0 < tally j xs). omega (arith, z, ap (tally j) order_is)) (λ (z : 0 < tally j (freed l)). omega arith) (u.others j i)))
              (omega (arith, length-append (order l) (freed l), length_order l, length_walk l.next l.free (l.fresh - l.len), u.few))
              q;
          some_used = u.few;
          some_fresh = u.fits;
        }

-- ---- the index

module _ (t keys ks : List ℕ) where
  leads_to : Holds t keys ks → LeadsTo t keys ks
  unfolding FoundKey
  leads_to h =
      record {
        found = λ x i. go x (tally_mem x ks i) (searched t keys (get_or keys x 0)) refl;
        only = λ p lp. ⊎_elim (λ e. inl e) (λ i. inr (mem_tally (get_or t p 0) ks i)) (h.only p lp);
        once = λ p q lp lq i e. h.once p q lp lq (h.place (get_or t p 0) (tally_mem (get_or t p 0) ks i)) e;
      }
    where
      go : (x : ℕ) → Memᴰ x ks → (r : Found) → searched t keys (get_or keys x 0) ≡ r → FoundKey x r
      go x i (At p k n) e = let w = says_at t keys ks (get_or keys x 0) h p n k e in h.distinct k x w.2 i w.3
      go x i (Absent p n) e = absurd ((says_absent t keys ks (get_or keys x 0) h p n e).1 x i refl)

  module _ (h : LeadsTo t keys ks) (size : length t ≡ 512) (few : length ks ≤ 256) (place : (x : ℕ) → 0 < tally x ks → x < 256) where
    -- where the search for a member ends
    ends : (x : ℕ) → 0 < tally x ks → (p : ℕ) × (k : KeyPlace) × (n : ℕ) × (searched t keys (at keys x) ≡ At p k n) × (k ≡ x)
    ends x i = found_key (searched t keys (at keys x)) x (h.found x i)

    stands : (x : ℕ) (i : 0 < tally x ks) → Reached t keys (at keys x) (ends x i).0 (ends x i).1
    stands x i = let w = ends x i in reached t keys (at keys x) w.0 w.2 w.1 w.3

    held : (p : ℕ) → p < 512 → at t p < 256 → 0 < tally (at t p) ks
    held p lp l = ⊎_elim (λ (e : at t p ≡ 65535). absurd (omega arith)) (λ (i : 0 < tally (at t p) ks). i) (h.only p lp)

    -- two members of one number are what one search finds
    one_number : (j k : ℕ) → 0 < tally j ks → 0 < tally k ks → at keys j ≡ at keys k → j ≡ k
    one_number j k mj mk e =
        let a = ends j mj in
        let b = ends k mk in
        let z : At a.0 a.1 a.2 ≡ At b.0 b.1 b.2 = sym a.3 ∙ ap (searched t keys) e ∙ b.3 in
        let same : a.1 ≡ b.1 = cc z in
        sym a.4 ∙ same ∙ b.4

    -- no place is empty from the start of a search to where it ends
    no_gap : (p q : ℕ) → p < 512 → q < 512 → at t p < 256 → dist (home (at keys (at t p))) q ≤ dist (home (at keys (at t p))) p → at t q < 256
    no_gap p q lp lq l d =
        let i = held p lp l in
        let w = ends (at t p) i in
        let r = stands (at t p) i in
        let there : p ≡ w.0 = h.once p w.0 lp r.inside i (sym (r.key ∙ w.4)) in
        let s : ℕ = home (at keys (at t p)) in
        ⊎_elim (λ (d' : dist s q < dist s p). r.before q lq (subst (λ (y : ℕ). dist s q < dist s y) there d'))
        (λ (d' : dist s p ≤ dist s q). subst (λ (y : ℕ). at t y < 256) (dist_inj s p q (home_lt (at keys (at t p))) lp lq (omega arith)) l)
        (less_or_not (dist s q) (dist s p))

    holds_so : Holds t keys ks
    holds_so =
        record {
          size = size;
          few = few;
          place = λ x i. place x (mem_tally x ks i);
          distinct = λ j k mj mk e. one_number j k (mem_tally j ks mj) (mem_tally k ks mk) e;
          has = λ x i. let r = stands x (mem_tally x ks i) in ((ends x (mem_tally x ks i)).0, r.inside, r.key ∙ (ends x (mem_tally x ks i)).4);
          once = λ p q lp lq l e. h.once p q lp lq (held p lp l) e;
          only = λ p lp. ⊎_elim (λ e. inl e) (λ i. inr (tally_mem (at t p) ks i)) (h.only p lp);
          reach = no_gap;
        }

-- ---- the map

module _ (m : ListOrderedMultimap) where
  -- a well-linked map's arrays represent its P and K
  pub represented : WellLinked m → Represented m
  represented g =
      record {
        pairs = pairs m;
        members = members m;
        represents =
            record {
              sized = g.sized;
              vs = order (rounds_of m);
              round_list = in_use (rounds_of m) g.chained.rounds;
              pairs_are = refl;
              ks = order (members_of m);
              member_list = in_use (members_of m) g.chained.members;
              members_are = refl;
              owned = g.chained.keys;
              chain =
                  λ x i.
                  subst (λ (l : List ℕ). Route (at m.next_index) (at m.previous_index) (1024 + x) l (1024 + x))
                  (places_are m g (at m.keys x) x i refl) (g.chained.chain x i);
              lengths = λ x i. sym (member_at m g (at m.keys x) x i refl).many;
              index = leads_to m.index m.keys (order (members_of m)) g.index;
            };
        exactly = (proper.represents m g).once;
        taken = g.taken;
        allowed = g.limited.allowed;
        few_members = (proper.represents m g).members;
        few_pairs = (proper.represents m g).rounds;
      }

  module _ (P : List Pair) (K : List ℕ) (r : Represents m P K) where
    abbrev vs : List ℕ
    vs = r.vs

    abbrev ks : List ℕ
    ks = r.ks

    rounds_are : order (rounds_of m) ≡ vs
    rounds_are = order_is (rounds_of m) vs r.round_list

    members_are : order (members_of m) ≡ ks
    members_are = order_is (members_of m) ks r.member_list

    -- what the arrays represent is the map's own P and K
    pub own_pairs : P ≡ pairs m
    own_pairs = sym r.pairs_are ∙ ap (map (pair_at m)) (sym rounds_are)

    pub own_members : K ≡ members m
    own_members = sym r.members_are ∙ ap (map (at m.keys)) (sym members_are)

    lists_rounds : Linked (rounds_of m)
    lists_rounds = linked_so (rounds_of m) vs r.round_list

    lists_members : Linked (members_of m)
    lists_members = linked_so (members_of m) ks r.member_list

    inside : (x : ℕ) → 0 < tally x ks → x < 256
    inside x i = in_array (members_of m) lists_members x (subst (λ (l : List ℕ). 0 < tally x l) (sym members_are) i)

    holds : Holds m.index m.keys ks
    holds =
        holds_so m.index m.keys ks r.index r.sized.index
        (omega (arith, r.member_list.counted, r.member_list.few, r.member_list.fits)) inside

    -- the rounds of a member place are the places of its pairs
    places : (x : ℕ) → 0 < tally x ks → record_in (links_of m) x ≡ keep (λ q. of (at m.keys x) (pair_at m q)) vs
    places x i =
        ap (keep (λ q. eqb (at m.key_index q) x)) rounds_are
        ∙ keep_same (λ q. eqb (at m.key_index q) x) (λ q. of (at m.keys x) (pair_at m q)) vs
        (λ q j. sym (same_number m.index m.keys ks holds (at m.key_index q) x (r.owned q j) i))

    pairs_of : (k : ℕ) → filter (of k) P ≡ map (pair_at m) (keep (λ q. of k (pair_at m q)) vs)
    pairs_of k = ap (filter (of k)) (sym r.pairs_are) ∙ filter_map (of k) (pair_at m) vs

    many : (x : ℕ) → 0 < tally x ks → length (record_in (links_of m) x) ≡ length (filter (of (at m.keys x)) P)
    many x i =
        ap length (places x i) ∙ sym (length-map (keep (λ q. of (at m.keys x) (pair_at m q)) vs) (pair_at m)) ∙ ap length (sym (pairs_of (at m.keys x)))

    chained : Chained (links_of m)
    chained =
        record {
          rounds = lists_rounds;
          members = lists_members;
          keys = λ q i. back (at m.key_index q) (r.owned q (subst (λ (l : List ℕ). 0 < tally q l) rounds_are i));
          chain =
              λ x i.
              subst (λ (l : List ℕ). Route (at m.next_index) (at m.previous_index) (1024 + x) l (1024 + x))
              (sym (places x (there x i))) (r.chain x (there x i));
          size =
              λ x i.
              r.lengths x (there x i) ∙ length-map (filter (of (at m.keys x)) P) (λ (p : Pair). p.value) ∙ sym (many x (there x i));
        }
      where
        back : (x : ℕ) → 0 < tally x ks → 0 < tally x (order (members_of m))
        back x i = subst (λ (l : List ℕ). 0 < tally x l) (sym members_are) i

        there : (x : ℕ) → 0 < tally x (order (members_of m)) → 0 < tally x ks
        there x i = subst (λ (l : List ℕ). 0 < tally x l) members_are i

    -- K holds no other than the members of P: each member has a round
    module _ (exactly : (k : ℕ) → times (eqb k) K ≡ cond (has k P) 1 0) where
      has_pair : (k : ℕ) → 0 < times (eqb k) K → (b : Bool) → has k P ≡ b → 0 < length (filter (of k) P)
      has_pair k i true e = any_one (of k) P e
      has_pair k i false e = absurd (omega (arith, exactly k, ap {B = ℕ} (λ (b : Bool). cond b 1 0) e))

      some_round : (x : ℕ) → 0 < tally x ks → 0 < length (record_in (links_of m) x)
      some_round x i =
          let k : ℕ = at m.keys x in
          let counted : 0 < times (eqb k) K =
          any_one (eqb k) K (ap (any (eqb k)) (sym r.members_are) ∙ any_some (at m.keys) k x ks i refl) in
          omega (arith, many x i, has_pair k counted (has k P) refl)

      well_linked_so : Counted m → Limited m → WellLinked m
      well_linked_so t l =
          record {
            sized = r.sized;
            chained = chained;
            some = λ x i. some_round x (subst (λ (l : List ℕ). 0 < tally x l) members_are i);
            index = subst (Holds m.index m.keys) (sym members_are) holds;
            taken = t;
            limited = l;
          }

  -- arrays that represent some such P and K are a well-linked map's
  pub well_linked : Represented m → WellLinked m
  well_linked h =
      well_linked_so h.pairs h.members h.represents h.exactly h.taken
      record {
        allowed = h.allowed;
        members = omega (arith, h.few_members, ap length (own_members h.pairs h.members h.represents), length_members m);
        rounds = omega (arith, h.few_pairs, ap length (own_pairs h.pairs h.members h.represents), length_pairs m);
      }

  -- so a check that decides one decides the other
  pub decided : (b : Bool) → Decides b (WellLinked m) → Decides b (Represented m)
  decided b = decides_map b represented well_linked
