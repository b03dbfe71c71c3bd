-- The turns of `strike`. Assumes nothing.
use Prim.Native.Nat.{ℕ, zero, suc, ◌+◌, ◌-◌, ◌≤◌, ◌<◌}
use mathlib.Core.Path.{◌≡◌, refl, sym, ap, ◌∙◌, subst}
use mathlib.Core.Bool.{Bool, true, false, not}
use mathlib.Core.List.{List, [], ◌∷◌, ◌++◌}
use native.Mathlib.Omega.{arith}
use native.Mathlib.Numerals.{add-one}
use lib.Dec.{eqb}
use lib.ListN.{length, get_or, drop, length-set, drop_of_length-le}
use Rattle.links.specs.Route.{pick, tally, keep, without, strip, Route}
use Rattle.links.specs.Places.{order}
use Rattle.links.specs.Links.{Links, base, Chained, struck}
use Rattle.links.proofs.Routes.{tally_in, tally_append, tally_same, Once, without_split, keep_swap, route_split, route_start}
use Rattle.links.proofs.Lists.{length_walk, length_order, order_once, in_array, at_most_root, next_in, prev_in}
use Rattle.links.proofs.Chains.{in_record, record_once, own_member, cells_once, struck_chained, struck_order, size_some, prev_cell, next_cell, cell_fits}
use Rattle.multimap.specs.Map.{at, rounds_of, members_of, links_of}
use Rattle.multimap.specs.declared.ListOrderedMultimap.{ListOrderedMultimap}
use Rattle.multimap.specs.Sized.{Sized}
use Rattle.multimap.specs.Changes.{without_round}
use Rattle.multimap.proofs.Stores.{at_set, at_set₂, places_eq, links_eq}
use Rattle.multimap.proofs.Stretches.{first_of, at_next, split_next, split_past}
use Rattle.multimap.specs.Strike.{course, onward, visited, chosen, Stretch, RoundsOnly, Struck}

-- ---- either course

abbrev backward : Bool → Links → ℕ → ℕ
backward true c = c.prev
backward false c = c.rounds.prev

abbrev root : Bool → Links → ℕ → ℕ
root true c k = base c k
root false c k = c.rounds.root

module _ (c : Links) (g : Chained c) (k : ℕ) where
  -- a place of a course is one of a round, and has its member place
  on_course : (b : Bool) (x : ℕ) → 0 < tally x (course b c k) → 0 < tally x (order c.rounds)
  on_course true x i = omega (arith, record_once c.key k x (order c.rounds))
  on_course false x i = i

  course_route : (b : Bool) (x : ℕ) → 0 < tally x (course b c k) → Route (onward b c) (backward b c) (root b c k) (course b c k) (root b c k)
  course_route true x i =
      g.chain k (subst (λ (j : ℕ). 0 < tally j (order c.members)) (in_record c.key k x (order c.rounds) i) (own_member c g x (on_course true x i)))
  course_route false x i = g.rounds.route

  course_once : (b : Bool) → Once (root b c k ∷ course b c k)
  course_once true = cells_once c g k
  course_once false = order_once c.rounds g.rounds

  course_struck : (b : Bool) (x : ℕ) → 0 < tally x (order c.rounds) → course b (struck c x) k ≡ without x (course b c k)
  course_struck true x i = ap (keep (λ q. eqb (c.key q) k)) (struck_order c g x i) ∙ keep_swap (λ q. eqb (c.key q) k) (λ q. not (eqb q x)) (order c.rounds)
  course_struck false x i = struck_order c g x i

  module _ (b : Bool) (us : List ℕ) (x : ℕ) (ds : List ℕ) (e : course b c k ≡ us ++ x ∷ ds) where
    x_on : 0 < tally x (course b c k)
    x_on = omega (arith, ap (tally x) e, tally_append x us (x ∷ ds), tally_same x ds)

    onward_is : onward b c x ≡ get_or ds 0 (root b c k)
    onward_is =
        let p = subst (λ (l : List ℕ). Route (onward b c) (backward b c) (root b c k) l (root b c k)) e (course_route b x x_on) in
        route_start (onward b c) (backward b c) x ds (root b c k) (route_split (onward b c) (backward b c) (root b c k) us x ds (root b c k) p).1

    course_left : course b (struck c x) k ≡ us ++ ds
    course_left =
        course_struck b x (on_course b x x_on) ∙ ap (without x) e
        ∙ without_split x us ds (λ q. omega (arith, course_once b q, ap (tally q) e))

-- ---- the stores of a turn

-- the place x, its neighbours and its member place are within the arrays, and there is a round to be struck
pub record Bounds (o : ListOrderedMultimap) (x : ℕ) : Type 0 where
  pub place : x < 1024
  pub next : at o.next_value x < 1025
  pub prev : at o.previous_value x < 1025
  pub after : at o.next_index x < 1280
  pub before : at o.previous_index x < 1280
  pub key : at o.key_index x < 256
  pub size : 0 < at o.lengths (at o.key_index x)
  pub some : 0 < o.rounds.len

module _ (o : ListOrderedMultimap) (s : Sized o) (g : Chained (links_of o)) (x : ℕ) (i : 0 < tally x (order (rounds_of o))) where
  abbrev n : ℕ
  n = at o.next_value x

  abbrev p : ℕ
  p = at o.previous_value x

  abbrev after : ℕ
  after = at o.next_index x

  abbrev before : ℕ
  before = at o.previous_index x

  abbrev key : ℕ
  key = at o.key_index x

  pub bounds : Bounds o x
  bounds =
      let x_in : 0 < tally x (1024 ∷ order (rounds_of o)) = omega arith in
      let k : key < 256 = in_array (members_of o) g.members key (own_member (links_of o) g x i) in
      record {
        place = in_array (rounds_of o) g.rounds x i;
        next = omega (arith, at_most_root (rounds_of o) g.rounds n (next_in (rounds_of o) g.rounds x x_in));
        prev = omega (arith, at_most_root (rounds_of o) g.rounds p (prev_in (rounds_of o) g.rounds x x_in));
        after = cell_fits (links_of o) g after key 256 (next_cell (links_of o) g x i) k;
        before = cell_fits (links_of o) g before key 256 (prev_cell (links_of o) g x i) k;
        key = k;
        size = size_some (links_of o) g x i;
        some = omega (arith, tally_in x (order (rounds_of o)) i, length_order (rounds_of o));
      }

  abbrev pub r : ListOrderedMultimap
  r = without_round o x

  pub links : links_of r ≡ struck (links_of o) x
  links =
      links_eq (links_of r) _
      (places_eq (rounds_of r) _
      (at_set₂ o.next_value p n x o.rounds.free 1025 s.next_value bounds.prev (omega (arith, bounds.place)))
      (at_set o.previous_value n p (rw s.previous_value bounds.next))
      refl refl refl refl)
      refl refl
      (at_set o.next_index before after (rw s.next_index bounds.before))
      (at_set o.previous_index after before (rw s.previous_index bounds.after))
      (at_set o.lengths key (at o.lengths key - 1) (rw s.lengths bounds.key))

  pub sized_now : Sized r
  sized_now =
      record {
        keys = s.keys;
        lengths = simp length-set s.lengths;
        next_key = s.next_key;
        previous_key = s.previous_key;
        values = s.values;
        key_index = s.key_index;
        next_value = simp length-set s.next_value;
        previous_value = simp length-set s.previous_value;
        next_index = simp length-set s.next_index;
        previous_index = simp length-set s.previous_index;
        index = s.index;
        taken = s.taken;
      }

-- ---- the turns

-- After i turns: the course has what was kept, then what is still to be visited, at the first of which the walk is; and striking what is
-- chosen of that comes to what is asked.
pub record Turned (b : Bool) (m : ListOrderedMultimap) (start turns : ℕ) (h : Stretch b m start turns) (marks : List ℕ) (i q : ℕ) (o : ListOrderedMultimap) : Type 0 where
  pub some : i ≤ turns
  pub sized : Sized o
  pub chained : Chained (links_of o)
  pub kept : RoundsOnly m o
  pub front : List ℕ
  pub whole : course b (links_of o) (at m.key_index start) ≡ front ++ (drop i (visited b m start turns) ++ h.back)
  pub here : i < turns → q ≡ get_or (drop i (visited b m start turns) ++ h.back) 0 (root b (links_of o) (at m.key_index start))
  pub rest : strip (chosen marks (visited b m start turns)) (order (rounds_of m)) ≡ strip (chosen (drop i marks) (drop i (visited b m start turns))) (order (rounds_of o))

pub chosen_all : (vs : List ℕ) → chosen [] vs ≡ vs
chosen_all [] = refl
chosen_all (v ∷ vs) = ap (λ (l : List ℕ). v ∷ l) (chosen_all vs)

chosen_end : (bs : List ℕ) → chosen bs [] ≡ []
chosen_end [] = refl
chosen_end (b ∷ bs) = refl

-- a mark that is missing is 0
chosen_one : (bs : List ℕ) (i v : ℕ) (vs : List ℕ) → chosen (drop i bs) (v ∷ vs) ≡ pick (eqb (get_or bs i 0) 0) (v ∷ chosen (drop (suc i) bs) vs) (chosen (drop (suc i) bs) vs)
chosen_one [] zero v vs = refl
chosen_one [] (suc i) v vs = refl
chosen_one (b ∷ bs) zero v vs = refl
chosen_one (b ∷ bs) (suc i) v vs = chosen_one bs i v vs

module _ (b : Bool) (m : ListOrderedMultimap) (start turns : ℕ) (h : Stretch b m start turns) (marks : List ℕ) where
  abbrev k : ℕ
  k = at m.key_index start

  abbrev vs : List ℕ
  vs = visited b m start turns

  long : length vs ≡ turns
  long = length_walk (onward b (links_of m)) start turns

  pub turned_none : Sized m → Turned b m start turns h marks 0 start m
  turned_none s =
      record {
        some = omega arith;
        sized = s;
        chained = h.chained;
        kept = record { keys = refl; values = refl; key_index = refl; index = refl; members = refl; ledger = record { taken = refl; limits = refl } };
        front = h.front;
        whole = h.whole;
        here = λ i. first_of (onward b (links_of m)) start turns h.back (root b (links_of m) k) i;
        rest = refl;
      }

  module _ (i q : ℕ) (o : ListOrderedMultimap) (t : Turned b m start turns h marks i q o) where
    pub turned_all : turns ≤ i → Struck m (chosen marks (visited b m start turns)) o
    turned_all e =
        let a : drop i vs ≡ [] = drop_of_length-le vs {i = i} (omega (arith, long)) in
        record {
          sized = t.sized;
          chained = t.chained;
          left = sym (t.rest ∙ ap (λ (l : List ℕ). strip (chosen (drop i marks) l) (order (rounds_of o))) a ∙ ap (λ (l : List ℕ). strip l (order (rounds_of o))) (chosen_end (drop i marks)));
          kept = t.kept;
        }

    module _ (e : i < turns) where
      abbrev ds : List ℕ
      ds = drop (suc i) vs

      more : i < length vs
      more = omega (arith, long)

      ahead : drop i vs ≡ q ∷ ds
      ahead = at_next vs h.back i q _ more (t.here e)

      split : course b (links_of o) k ≡ t.front ++ q ∷ (ds ++ h.back)
      split = split_next vs h.back i q _ more (t.here e) t.front (course b (links_of o) k) t.whole

      pub q_in : 0 < tally q (order (rounds_of o))
      q_in = on_course (links_of o) t.chained k b q (x_on (links_of o) t.chained k b t.front q (ds ++ h.back) split)

      next_q : onward b (links_of o) q ≡ get_or (ds ++ h.back) 0 (root b (links_of o) k)
      next_q = onward_is (links_of o) t.chained k b t.front q (ds ++ h.back) split

      now : strip (chosen (drop i marks) (drop i vs)) (order (rounds_of o))
          ≡ strip (pick (eqb (get_or marks i 0) 0) (q ∷ chosen (drop (suc i) marks) ds) (chosen (drop (suc i) marks) ds)) (order (rounds_of o))
      now = ap (λ (l : List ℕ). strip (chosen (drop i marks) l) (order (rounds_of o))) ahead ∙ ap (λ (l : List ℕ). strip l (order (rounds_of o))) (chosen_one marks i q ds)

      choice : {z : Bool} → eqb (get_or marks i 0) 0 ≡ z
          → strip (pick (eqb (get_or marks i 0) 0) (q ∷ chosen (drop (suc i) marks) ds) (chosen (drop (suc i) marks) ds)) (order (rounds_of o))
          ≡ strip (pick z (q ∷ chosen (drop (suc i) marks) ds) (chosen (drop (suc i) marks) ds)) (order (rounds_of o))
      choice f = ap (λ (z : Bool). strip (pick z (q ∷ chosen (drop (suc i) marks) ds) (chosen (drop (suc i) marks) ds)) (order (rounds_of o))) f

      -- the round is kept
      pub turned_kept : (y : ℕ) → y ≡ onward b (links_of o) q → eqb (get_or marks i 0) 0 ≡ false → Turned b m start turns h marks (i + 1) y o
      turned_kept y ey f =
          record {
            some = omega arith;
            sized = t.sized;
            chained = t.chained;
            kept = t.kept;
            front = t.front ++ q ∷ [];
            whole = split_past vs h.back i q _ more (t.here e) t.front (course b (links_of o) k) t.whole;
            here = λ z. rw (add-one i) (ey ∙ next_q);
            rest = rw (add-one i) (t.rest ∙ now ∙ choice f);
          }

      -- the round is struck
      module _ (y : ℕ) (ey : y ≡ onward b (links_of o) q) (f : eqb (get_or marks i 0) 0 ≡ true) where
        abbrev a : ListOrderedMultimap
        a = r o t.sized t.chained q q_in

        eq : links_of a ≡ struck (links_of o) q
        eq = links o t.sized t.chained q q_in

        pub turned_struck : Turned b m start turns h marks (i + 1) y (r o t.sized t.chained q q_in)
        turned_struck =
            record {
              some = omega arith;
              sized = sized_now o t.sized t.chained q q_in;
              chained = subst Chained (sym eq) (struck_chained (links_of o) t.chained q q_in);
              kept = record {
                keys = t.kept.keys;
                values = t.kept.values;
                key_index = t.kept.key_index;
                index = t.kept.index;
                members = t.kept.members;
                ledger = record { taken = t.kept.ledger.taken; limits = t.kept.ledger.limits };
              };
              front = t.front;
              whole =
                  rw (add-one i)
                  (ap (λ (c : Links). course b c k) eq ∙ course_left (links_of o) t.chained k b t.front q (ds ++ h.back) split);
              here = λ z. rw (add-one i) (ey ∙ next_q ∙ ap (λ (z : ℕ). get_or (ds ++ h.back) 0 z) (same_root b));
              rest =
                  rw (add-one i)
                  (t.rest ∙ now ∙ choice f ∙ ap (strip (chosen (drop (suc i) marks) ds)) (sym (ap (λ (c : Links). order c.rounds) eq ∙ struck_order (links_of o) t.chained q q_in)));
            }
          where
            same_root : (b : Bool) → root b (links_of o) k ≡ root b (links_of a) k
            same_root true = refl
            same_root false = refl
