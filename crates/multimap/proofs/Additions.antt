-- The stores that put a member or a round at the back, and what they make of the links. Assumes nothing.
use Prim.Native.Nat.{ℕ, ◌+◌, ◌≤◌, ◌<◌}
use mathlib.Core.Path.{◌≡◌, refl, ap, ◌∙◌}
use native.Mathlib.Omega.{arith}
use lib.Dec.{eqb}
use lib.ListN.{set, length-set}
use Rattle.links.specs.Stores.{up, spot}
use Rattle.links.specs.Route.{pick}
use Rattle.links.specs.Links.{added, joined}
use Rattle.multimap.specs.declared.ListOrderedMultimap.{ListOrderedMultimap}
use Rattle.multimap.specs.Sized.{Sized}
use Rattle.multimap.specs.Changes.{base_of, with_member, with_round}
use Rattle.multimap.specs.Map.{at, rounds_of, members_of, links_of}
use Rattle.multimap.proofs.Stores.{at_set, at_set₂, places_eq, links_eq}

up_is : (n : ℕ) → n < 65535 → up n ≡ n + 1
up_is n h = omega arith

pub base_is : (k : ℕ) → k < 256 → base_of k ≡ 1024 + k
base_is k h = omega arith

-- how many have ever been
pub fresh_is : (l f : ℕ) → f < 65535 → pick (eqb l f) (up f) f ≡ pick (eqb l f) (f + 1) f
fresh_is l f h = ap (λ (y : ℕ). pick (eqb l f) y f) (up_is f h)

module _ (a : ListOrderedMultimap) (s : Sized a) where
  pub member_links : (k p : ℕ) → spot a.members < 256 → at a.previous_key 256 ≤ 256 → a.members.len < 256 → a.members.fresh ≤ 256
      → links_of (with_member a k p) ≡ joined (links_of a)
  member_links k p fits back len fresh =
      links_eq (links_of (with_member a k p)) _ refl
      (places_eq (members_of (with_member a k p)) _
      (at_set₂ a.next_key (at a.previous_key 256) (spot a.members) (spot a.members) 256 257 s.next_key (omega arith) (omega arith))
      (at_set₂ a.previous_key (spot a.members) (at a.previous_key 256) 256 (spot a.members) 257 s.previous_key (omega arith) (omega arith))
      refl (up_is a.members.len (omega arith)) (fresh_is a.members.len a.members.fresh (omega arith)) refl)
      refl
      (ap (λ (y : ℕ). at (set a.next_index y y)) cell ∙ at_set a.next_index (1024 + spot a.members) (1024 + spot a.members) (rw s.next_index (omega arith)))
      (ap (λ (y : ℕ). at (set a.previous_index y y)) cell ∙ at_set a.previous_index (1024 + spot a.members) (1024 + spot a.members) (rw s.previous_index (omega arith)))
      (at_set a.lengths (spot a.members) 0 (rw s.lengths fits))
    where
      cell : base_of (spot a.members) ≡ 1024 + spot a.members
      cell = base_is (spot a.members) fits

  pub round_links : (poster key v : ℕ) → spot a.rounds < 1024 → key < 256 → at a.previous_value 1024 ≤ 1024 → at a.previous_index (1024 + key) < 1280
      → at a.lengths key < 1024 → a.rounds.len < 1024 → a.rounds.fresh ≤ 1024 → links_of (with_round a poster key v) ≡ added (links_of a) key
  round_links poster key v place fits back tail size len fresh =
      links_eq (links_of (with_round a poster key v)) _
      (places_eq (rounds_of (with_round a poster key v)) _
      (at_set₂ a.next_value (at a.previous_value 1024) (spot a.rounds) (spot a.rounds) 1024 1025 s.next_value (omega arith) (omega arith))
      (at_set₂ a.previous_value (spot a.rounds) (at a.previous_value 1024) 1024 (spot a.rounds) 1025 s.previous_value (omega arith) (omega arith))
      refl (up_is a.rounds.len (omega arith)) (fresh_is a.rounds.len a.rounds.fresh (omega arith)) refl)
      refl
      (at_set a.key_index (spot a.rounds) key (rw s.key_index place))
      (ap (λ (y : ℕ). at (set (set a.next_index (at a.previous_index y) (spot a.rounds)) (spot a.rounds) y)) cell
      ∙ at_set₂ a.next_index (at a.previous_index (1024 + key)) (spot a.rounds) (spot a.rounds) (1024 + key) 1280 s.next_index tail (omega arith))
      (ap (λ (y : ℕ). at (set (set a.previous_index (spot a.rounds) (at a.previous_index y)) y (spot a.rounds))) cell
      ∙ at_set₂ a.previous_index (spot a.rounds) (at a.previous_index (1024 + key)) (1024 + key) (spot a.rounds) 1280 s.previous_index (omega arith) (omega arith))
      (ap (λ (y : ℕ). at (set a.lengths key y)) (up_is (at a.lengths key) (omega arith)) ∙ at_set a.lengths key (at a.lengths key + 1) (rw s.lengths fits))
    where
      cell : base_of key ≡ 1024 + key
      cell = base_is key fits

  pub member_sized : (k p : ℕ) → Sized (with_member a k p)
  member_sized k p =
      record {
        keys = simp length-set s.keys;
        lengths = simp length-set s.lengths;
        next_key = simp length-set s.next_key;
        previous_key = simp length-set s.previous_key;
        values = s.values;
        key_index = s.key_index;
        next_value = s.next_value;
        previous_value = s.previous_value;
        next_index = simp length-set s.next_index;
        previous_index = simp length-set s.previous_index;
        index = simp length-set s.index;
        taken = s.taken;
      }

  pub round_sized : (poster key v : ℕ) → Sized (with_round a poster key v)
  round_sized poster key v =
      record {
        keys = s.keys;
        lengths = simp length-set s.lengths;
        next_key = s.next_key;
        previous_key = s.previous_key;
        values = simp length-set s.values;
        key_index = simp length-set s.key_index;
        next_value = simp length-set s.next_value;
        previous_value = simp length-set s.previous_value;
        next_index = simp length-set s.next_index;
        previous_index = simp length-set s.previous_index;
        index = s.index;
        taken = simp length-set s.taken;
      }
