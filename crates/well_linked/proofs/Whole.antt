-- The parts of the check put together: the members' records, and the whole map. Assumes nothing.
use Prim.Native.Nat.{ℕ, ◌<◌}
use mathlib.Core.Path.{◌≡◌, refl, ap}
use mathlib.Core.Bool.{Bool, true, false}
use mathlib.Core.List.{List}
use native.Mathlib.Omega.{arith}
use lib.ListN.{get_or}
use Rattle.index.specs.Agree.{Lists}
use Rattle.index.specs.Table.{Holds}
use Rattle.links.specs.Route.{bit, tally}
use Rattle.links.specs.Places.{order, Linked}
use Rattle.links.proofs.Lists.{length_order, in_array}
use Rattle.multimap.specs.declared.ListOrderedMultimap.{ListOrderedMultimap}
use Rattle.multimap.specs.Map.{rounds_of, members_of}
use Rattle.multimap.specs.WellLinked.{WellLinked}
use Rattle.multimap.proofs.Stores.{mem_tally, tally_mem}
use Rattle.well_linked.specs.Bounds.{Bounded}
use Rattle.well_linked.specs.Marks.{marks}
use Rattle.well_linked.specs.Chains.{Used, Records}

one_true : (b : Bool) (n : ℕ) → bit b ≡ n → 0 < n → b ≡ true
one_true true n e h = refl
one_true false n e h = absurd (omega arith)

-- both lists are linked, and the members in use are marked
module _ (m : ListOrderedMultimap) (r : Linked (rounds_of m)) (g : Linked (members_of m)) (used : List Bool)
    (u : (q : ℕ) → marks used q ≡ tally q (order (members_of m))) where
  abbrev ks : List ℕ
  ks = order (members_of m)

  to_use : (k : ℕ) → 0 < tally k ks → Used used k
  to_use k h = one_true (get_or used k false) (tally k ks) (u k) h

  of_use : (k : ℕ) → Used used k → 0 < tally k ks
  of_use k e = omega (arith, u k, ap bit e)

  below : (k : ℕ) → 0 < tally k ks → k < 256
  below k h = in_array (members_of m) g k h

  -- the marks list the members for the index
  pub listed : Lists used ks
  listed =
      record {
        few = omega (arith, length_order (members_of m), g.some_used, g.some_fresh);
        to = λ k l e. tally_mem k ks (of_use k e);
        of = λ k i. (below k (mem_tally k ks i), to_use k (mem_tally k ks i));
      }

  pub recorded : WellLinked m → Records m used
  recorded w =
      record {
        keys = λ q h. to_use _ (w.chained.keys q h);
        chain = λ k l e. w.chained.chain k (of_use k e);
        size = λ k l e. w.chained.size k (of_use k e);
        some = λ k l e. w.some k (of_use k e);
      }

  pub well_linked_so : Records m used → Bounded m → Holds m.index m.keys ks → WellLinked m
  well_linked_so c b h =
      record {
        sized = b.sized;
        chained =
            record {
              rounds = r;
              members = g;
              keys = λ q i. of_use _ (c.keys q i);
              chain = λ k i. c.chain k (below k i) (to_use k i);
              size = λ k i. c.size k (below k i) (to_use k i);
            };
        some = λ k i. c.some k (below k i) (to_use k i);
        index = h;
        taken = b.taken;
        limited = b.limited;
      }
