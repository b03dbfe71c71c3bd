-- The four changes of a map: a member joins, a round is added, a round leaves, a member leaves. Each is what the stores leave, whatever the
-- arrays hold.
use Rattle.std.specs.Prelude.{ℕ, zero, suc, ◌+◌, ◌-◌, ◌≤◌, ◌<◌, min, ◌≡◌, Bool, true, false, List, set}
use Rattle.steps.specs.State.{counting}
use Rattle.index.specs.Removal.{Removed}
use Rattle.links.specs.Stores.{at, up, next_back, previous_back, next_out, previous_out, spot, taking, freeing}
use Rattle.multimap.specs.declared.ListOrderedMultimap.{ListOrderedMultimap}

-- the cell at which the chain of the member place k begins and ends, as far as 16 bits go
abbrev pub base_of : ℕ → ℕ
base_of k = min (1024 + k) 65535

-- the member k, which the place p of the index is to lead to, after the last member, with an empty record
abbrev pub with_member : ListOrderedMultimap → ℕ → ℕ → ListOrderedMultimap
with_member a k p =
    record a {
      keys = set a.keys (spot a.members) k;
      lengths = set a.lengths (spot a.members) 0;
      next_key = next_back a.next_key a.previous_key 256 (spot a.members);
      previous_key = previous_back a.previous_key 256 (spot a.members);
      next_index = set a.next_index (base_of (spot a.members)) (base_of (spot a.members));
      previous_index = set a.previous_index (base_of (spot a.members)) (base_of (spot a.members));
      index = set a.index p (spot a.members);
      members = taking a.next_key a.members;
    }

-- the round v of the member place `key`, after the last round and after that member's last, counted for the poster
abbrev pub with_round : ListOrderedMultimap → ℕ → ℕ → ℕ → ListOrderedMultimap
with_round a poster key v =
    record a {
      lengths = set a.lengths key (up (at a.lengths key));
      values = set a.values (spot a.rounds) v;
      key_index = set a.key_index (spot a.rounds) key;
      next_value = next_back a.next_value a.previous_value 1024 (spot a.rounds);
      previous_value = previous_back a.previous_value 1024 (spot a.rounds);
      next_index = next_back a.next_index a.previous_index (base_of key) (spot a.rounds);
      previous_index = previous_back a.previous_index (base_of key) (spot a.rounds);
      rounds = taking a.next_value a.rounds;
      taken = counting poster a.taken;
    }

-- the round in the place x is struck from the list and from its member's record
abbrev pub without_round : ListOrderedMultimap → ℕ → ListOrderedMultimap
without_round a x =
    record a {
      lengths = set a.lengths (at a.key_index x) (at a.lengths (at a.key_index x) - 1);
      next_value = set (next_out a.next_value a.previous_value x) x a.rounds.free;
      previous_value = previous_out a.next_value a.previous_value x;
      next_index = next_out a.next_index a.previous_index x;
      previous_index = previous_out a.next_index a.previous_index x;
      rounds = freeing a.rounds x;
    }

-- the member in the place x leaves the list, and the index is t
abbrev pub without_member : ListOrderedMultimap → ℕ → List ℕ → ListOrderedMultimap
without_member a x t =
    record a {
      next_key = set (next_out a.next_key a.previous_key x) x a.members.free;
      previous_key = previous_out a.next_key a.previous_key x;
      index = t;
      members = freeing a.members x;
    }

-- r is a without the member in the place x, whose number is gone from the index
pub record Parted (a : ListOrderedMultimap) (x : ℕ) (r : ListOrderedMultimap) : Type 0 where
  pub removed : Removed a.index a.keys (at a.keys x) r.index
  pub rest : r ≡ without_member a x r.index

-- so many rounds of a record are struck, from the place q on
abbrev pub strikes : ℕ → ℕ → ListOrderedMultimap → ListOrderedMultimap
strikes zero q a = a
strikes (suc n) q a = strikes n (at a.next_index q) (without_round a q)

-- r is a without the round in the place x, and without its member where that has no other round; `gone` is whether it has none
pub record Left (a : ListOrderedMultimap) (x : ℕ) (gone : Bool) (r : ListOrderedMultimap) : Type 0 where
  pub stays : 1 < at a.lengths (at a.key_index x) → (gone ≡ false) × (r ≡ without_round a x)
  pub goes : at a.lengths (at a.key_index x) ≤ 1 → (gone ≡ true) × Parted (without_round a x) (at a.key_index x) r
