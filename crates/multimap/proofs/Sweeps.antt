-- The turns of `sweep`. Assumes nothing.
use Prim.Native.Nat.{ℕ, suc, ◌+◌, ◌≤◌, ◌<◌}
use mathlib.Core.Path.{◌≡◌, refl, sym, ap, ◌∙◌, subst}
use mathlib.Core.Logic.{◌≢◌}
use mathlib.Core.Bool.{Bool, true, false, not}
use mathlib.Core.List.{List, [], ◌∷◌, ◌++◌, Memᴰ}
use native.Mathlib.Omega.{arith}
use native.Mathlib.Numerals.{add-one}
use borrow.Author.Tests.{eq-eqb, ne_eqb}
use lib.Dec.{eqb}
use lib.ListN.{length, get_or, drop, length-set, drop_of_length-le}
use Rattle.links.specs.Route.{pick, tally, keep, without, strip, Route}
use Rattle.links.specs.Places.{order}
use Rattle.links.specs.Links.{Links, record_in, Chained, parted}
use Rattle.links.proofs.Routes.{tally_append, tally_same, tally_in, length_keep, route_split, route_start}
use Rattle.links.proofs.Lists.{length_walk, length_order, order_without, in_array, at_most_root, next_in, prev_in}
use Rattle.links.proofs.Chains.{of_without, in_without, parted_chained, parted_order}
use Rattle.index.specs.Table.{Holds}
use Rattle.index.specs.Removal.{Removed}
use Rattle.index.specs.Table as T
use Rattle.index.proofs.Table.{relist}
use Rattle.index.proofs.Without.{without_mem, mem_without}
use Rattle.multimap.specs.Map.{at, members_of, links_of}
use Rattle.multimap.specs.declared.ListOrderedMultimap.{ListOrderedMultimap}
use Rattle.multimap.specs.Sized.{Sized}
use Rattle.multimap.specs.Changes.{without_member}
use Rattle.multimap.proofs.Stores.{at_set, at_set₂, places_eq, links_eq, mem_tally, tally_mem}
use Rattle.multimap.proofs.Stretches.{first_of, at_next, split_next, split_past}
use Rattle.multimap.specs.Sweep.{passed, idle, Sound, Sweepable, MembersOnly, Swept}

-- ---- the stores of a turn

-- the place x and its neighbours are within the arrays, and there is a member to leave
pub record Bounds (o : ListOrderedMultimap) (x : ℕ) : Type 0 where
  pub place : x < 256
  pub next : at o.next_key x < 257
  pub prev : at o.previous_key x < 257
  pub some : 0 < o.members.len

module _ (o : ListOrderedMultimap) (s : Sized o) (g : Sound o) (x : ℕ) (i : 0 < tally x (order (members_of o))) where
  abbrev n : ℕ
  n = at o.next_key x

  abbrev p : ℕ
  p = at o.previous_key x

  pub bounds : Bounds o x
  bounds =
      let l = g.chained.members in
      let x_in : 0 < tally x (256 ∷ order (members_of o)) = omega arith in
      record {
        place = in_array (members_of o) l x i;
        next = omega (arith, at_most_root (members_of o) l n (next_in (members_of o) l x x_in));
        prev = omega (arith, at_most_root (members_of o) l p (prev_in (members_of o) l x x_in));
        some = omega (arith, tally_in x (order (members_of o)) i, length_order (members_of o));
      }

  abbrev pub r : List ℕ → ListOrderedMultimap
  r closed = without_member o x closed

  -- the index has closed the gap
  module _ (closed : List ℕ) (none : at o.lengths x ≡ 0) (shut : Holds closed o.keys (T.without x (order (members_of o)))) where
    abbrev a : ListOrderedMultimap
    a = r closed

    abbrev ks : List ℕ
    ks = order (members_of o)

    links : links_of a ≡ parted (links_of o) x
    links =
        links_eq (links_of a) _ refl
        (places_eq (members_of a) _
        (at_set₂ o.next_key p n x o.members.free 257 s.next_key bounds.prev (omega (arith, bounds.place)))
        (at_set o.previous_key n p (rw s.previous_key bounds.next))
        refl refl refl refl)
        refl refl refl refl

    empty : record_in (links_of o) x ≡ []
    empty = go (record_in (links_of o) x) (sym (g.chained.size x i) ∙ none)
      where
        go : (l : List ℕ) → length l ≡ 0 → l ≡ []
        go [] e = refl
        go (y ∷ l) e = absurd (omega arith)

    left_now : order (members_of (r closed)) ≡ without x (order (members_of o))
    left_now = ap (λ (c : Links). order c.members) links ∙ parted_order (links_of o) g.chained x i empty

    holds : Holds closed o.keys (order (members_of a))
    holds =
        relist
        (rw left_now (omega (arith, length_keep (λ y. not (eqb y x)) ks, g.index.few)))
        (λ j m. rw left_now (tally_mem j (without x ks) (let w = without_mem x ks j m in in_without x j ks (mem_tally j ks w.0) w.1)))
        (λ j m. let w = of_without x j ks (mem_tally j (without x ks) (subst (λ (l : List ℕ). Memᴰ j l) left_now m)) in mem_without x ks j (tally_mem j ks w.0) w.1)
        shut

    pub sized_now : Sized (r closed)
    sized_now =
        record {
          keys = s.keys;
          lengths = s.lengths;
          next_key = simp length-set s.next_key;
          previous_key = simp length-set s.previous_key;
          values = s.values;
          key_index = s.key_index;
          next_value = s.next_value;
          previous_value = s.previous_value;
          next_index = s.next_index;
          previous_index = s.previous_index;
          index = shut.size;
          taken = s.taken;
        }

    sound_now : Sound (r closed)
    sound_now = record { sized = sized_now; chained = subst Chained (sym links) (parted_chained (links_of o) g.chained x i empty); index = holds }

-- ---- the turns

-- After i turns: the list of members has those that were kept, then those still to be passed, at the first of which the walk is; and letting
-- leave those of them that have no round comes to what is asked.
pub record Turned (m : ListOrderedMultimap) (start turns : ℕ) (h : Sweepable m start turns) (i q : ℕ) (o : ListOrderedMultimap) : Type 0 where
  pub some : i ≤ turns
  pub sized : Sized o
  pub sound : Sound o
  pub kept : MembersOnly m o
  pub front : List ℕ
  pub whole : order (members_of o) ≡ front ++ (drop i (passed m start turns) ++ h.back)
  pub here : i < turns → q ≡ get_or (drop i (passed m start turns) ++ h.back) 0 256
  pub rest : strip (idle m start turns) (order (members_of m)) ≡ strip (keep (λ k. eqb (at m.lengths k) 0) (drop i (passed m start turns))) (order (members_of o))

module _ (m : ListOrderedMultimap) (start turns : ℕ) (h : Sweepable m start turns) where
  abbrev vs : List ℕ
  vs = passed m start turns

  abbrev f : ℕ → Bool
  f k = eqb (at m.lengths k) 0

  long : length vs ≡ turns
  long = length_walk (at m.next_key) start turns

  pub turned_none : Sized m → Turned m start turns h 0 start m
  turned_none s =
      record {
        some = omega arith;
        sized = s;
        sound = h.sound;
        kept = record { keys = refl; values = refl; key_index = refl; rounds = refl; next_index = refl; previous_index = refl; lengths = refl; ledger = record { taken = refl; limits = refl } };
        front = h.front;
        whole = h.whole;
        here = λ i. first_of (at m.next_key) start turns h.back 256 i;
        rest = refl;
      }

  module _ (i q : ℕ) (o : ListOrderedMultimap) (t : Turned m start turns h i q o) where
    pub turned_all : turns ≤ i → Swept m (idle m start turns) o
    turned_all e =
        let a : drop i vs ≡ [] = drop_of_length-le vs {i = i} (omega (arith, long)) in
        record {
          sound = t.sound;
          left = sym (t.rest ∙ ap (λ (l : List ℕ). strip (keep f l) (order (members_of o))) a);
          kept = t.kept;
        }

    module _ (e : i < turns) where
      abbrev ds : List ℕ
      ds = drop (suc i) vs

      more : i < length vs
      more = omega (arith, long)

      ahead : drop i vs ≡ q ∷ ds
      ahead = at_next vs h.back i q 256 more (t.here e)

      split : order (members_of o) ≡ t.front ++ q ∷ (ds ++ h.back)
      split = split_next vs h.back i q 256 more (t.here e) t.front (order (members_of o)) t.whole

      pub q_in : 0 < tally q (order (members_of o))
      q_in = omega (arith, ap (tally q) split, tally_append q t.front (q ∷ (ds ++ h.back)), tally_same q (ds ++ h.back))

      next_q : at o.next_key q ≡ get_or (ds ++ h.back) 0 256
      next_q =
          let l = members_of o in
          let w = subst (λ (ws : List ℕ). Route l.next l.prev 256 ws 256) split t.sound.chained.members.route in
          route_start l.next l.prev q (ds ++ h.back) 256 (route_split l.next l.prev 256 t.front q (ds ++ h.back) 256 w).1

      size_q : at o.lengths q ≡ at m.lengths q
      size_q = ap (λ (l : List ℕ). at l q) t.kept.lengths

      choice : (z : Bool) → f q ≡ z → strip (keep f (drop i vs)) (order (members_of o)) ≡ strip (pick z (q ∷ keep f ds) (keep f ds)) (order (members_of o))
      choice z u = ap (λ (l : List ℕ). strip (keep f l) (order (members_of o))) ahead ∙ ap (λ (z : Bool). strip (pick z (q ∷ keep f ds) (keep f ds)) (order (members_of o))) u

      pub turned_kept : at o.lengths q ≢ 0 → Turned m start turns h (i + 1) (at o.next_key q) o
      turned_kept u =
          record {
            some = omega arith;
            sized = t.sized;
            sound = t.sound;
            kept = t.kept;
            front = t.front ++ q ∷ [];
            whole = split_past vs h.back i q 256 more (t.here e) t.front (order (members_of o)) t.whole;
            here = λ z. rw (add-one i) next_q;
            rest = rw (add-one i) (t.rest ∙ choice false (ne_eqb (at m.lengths q) 0 (λ v. u (size_q ∙ v))));
          }

      module _ (u : at o.lengths q ≡ 0) (closed : List ℕ) (shut : Holds closed o.keys (T.without q (order (members_of o)))) where
        gone : order (members_of (r o t.sized t.sound q q_in closed)) ≡ without q (order (members_of o))
        gone = left_now o t.sized t.sound q q_in closed u shut

        pub turned_left : Turned m start turns h (i + 1) (at o.next_key q) (r o t.sized t.sound q q_in closed)
        turned_left =
            record {
              some = omega arith;
              sized = sized_now o t.sized t.sound q q_in closed u shut;
              sound = sound_now o t.sized t.sound q q_in closed u shut;
              kept = record {
                keys = t.kept.keys;
                values = t.kept.values;
                key_index = t.kept.key_index;
                rounds = t.kept.rounds;
                next_index = t.kept.next_index;
                previous_index = t.kept.previous_index;
                lengths = t.kept.lengths;
                ledger = record { taken = t.kept.ledger.taken; limits = t.kept.ledger.limits };
              };
              front = t.front;
              whole = rw (add-one i) (gone ∙ order_without (members_of o) t.sound.chained.members t.front q (ds ++ h.back) split);
              here = λ z. rw (add-one i) next_q;
              rest = rw (add-one i) (t.rest ∙ choice true (eq-eqb (at m.lengths q) 0 (sym size_q ∙ u)) ∙ ap (strip (keep f ds)) (sym gone));
            }

-- the member numbers are those of m, of which the index loses one
pub shut_gap : (m o : ListOrderedMultimap) → MembersOnly m o → Sound o → (x : ℕ) → 0 < tally x (order (members_of o)) → (closed : List ℕ)
    → Removed o.index m.keys (at m.keys x) closed → Holds closed o.keys (T.without x (order (members_of o)))
shut_gap m o k g x i closed r =
    let ks = order (members_of o) in
    rw k.keys (r.gone ks x (subst (λ (l : List ℕ). Holds o.index l ks) k.keys g.index) (tally_mem x ks i) refl)
