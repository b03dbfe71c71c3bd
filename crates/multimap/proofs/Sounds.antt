-- A map whose lists, chains and index are right, and that stands for what a well-linked map stands for, is well-linked: that each member has
-- a round is said of P and K alone. Assumes nothing.
use Prim.Native.Nat.{ℕ, ◌<◌}
use mathlib.Core.Path.{◌≡◌, sym, ap, ◌∙◌, subst}
use mathlib.Core.List.{List, Memᴰ}
use native.Mathlib.Omega.{arith}
use lib.Dec.{eqb}
use lib.ListN.{length, length-map}
use Rattle.steps.specs.Lists.{filter}
use Rattle.steps.specs.State.{State, of}
use Rattle.links.specs.Route.{tally, keep}
use Rattle.links.specs.Places.{order}
use Rattle.links.specs.Links.{record_in}
use Rattle.links.proofs.Routes.{keep_same}
use Rattle.multimap.specs.Map.{at, pair_at, pairs, members, rounds_of, members_of, links_of, state_of}
use Rattle.multimap.specs.declared.ListOrderedMultimap.{ListOrderedMultimap}
use Rattle.multimap.specs.WellLinked.{WellLinked, Limited}
use Rattle.multimap.specs.Sweep.{Sound}
use Rattle.multimap.proofs.Stores.{mem_tally, tally_mem, length_pairs, length_members}
use Rattle.multimap.proofs.Records.{filter_map, same_number}
use Rattle.multimap.proofs.States.{limited_less}

pub linked_sound : (m : ListOrderedMultimap) → WellLinked m → Sound m
linked_sound m g = record { sized = g.sized; chained = g.chained; index = g.index }

-- a member's record is as long as it has pairs
pub record_pairs : (m : ListOrderedMultimap) → Sound m → (x : ℕ) → 0 < tally x (order (members_of m))
    → length (record_in (links_of m) x) ≡ length (filter (of (at m.keys x)) (pairs m))
record_pairs m g x i =
    let k : ℕ = at m.keys x in
    let vs : List ℕ = order (rounds_of m) in
    sym (ap length (filter_map (of k) (pair_at m) vs) ∙ length-map (keep (λ q. of k (pair_at m q)) vs) (pair_at m)
    ∙ ap length (keep_same (λ q. of k (pair_at m q)) (λ q. eqb (at m.key_index q) x) vs
    (λ q j. same_number m.index m.keys (order (members_of m)) g.index (at m.key_index q) x (g.chained.keys q j) i)))

pub sound_linked : (m : ListOrderedMultimap) → WellLinked m → (r : ListOrderedMultimap) → Sound r → state_of r ≡ state_of m → WellLinked r
sound_linked m g r h e =
    record {
      sized = h.sized;
      chained = h.chained;
      some = some;
      index = h.index;
      taken = rw (ap (λ (s : State). s.taken) e) g.taken;
      limited = limited;
    }
  where
    limited : Limited r
    limited =
        limited_less m r g.limited (ap (λ (s : State). s.limits) e)
        (omega (arith, length_members r, length_members m, ap (λ (s : State). length s.members) e))
        (omega (arith, length_pairs r, length_pairs m, ap (λ (s : State). length s.pairs) e))

    some : (x : ℕ) → 0 < tally x (order (members_of r)) → 0 < length (record_in (links_of r) x)
    some x i =
        let k : ℕ = at r.keys x in
        let old : Memᴰ k (members m) =
        subst (λ (s : State). Memᴰ k s.members) e (mathlib.Core.List.Memᴰ.map (at r.keys) (tally_mem x (order (members_of r)) i)) in
        let w = mathlib.Core.List.Memᴰ.of_map (at m.keys) (order (members_of m)) old in
        let j : 0 < tally w.0 (order (members_of m)) = mem_tally w.0 (order (members_of m)) w.1 in
        let many : length (filter (of (at m.keys w.0)) (pairs m)) ≡ length (filter (of k) (pairs r)) =
        ap (λ (n : ℕ). length (filter (of n) (pairs m))) w.2 ∙ sym (ap (λ (s : State). length (filter (of k) s.pairs)) e) in
        omega (arith, record_pairs r h x i, many, record_pairs m (linked_sound m g) w.0 j, g.some w.0 j)
