-- What a map stands for: P, the list of pairs; K, the list of members; T, the rounds ever taken in, by poster; and its limits.
use Rattle.std.specs.Prelude.{ℕ, ◌≡◌, List, map}
use Rattle.steps.specs.State.{State, Limits, limit, Pair}
use Rattle.links.specs.Places.{Places, order}
use Rattle.links.specs.Links.{Links}
use Rattle.multimap.specs.declared.ListOrderedMultimap.{ListOrderedMultimap}
pub use Rattle.links.specs.Stores.{at}

-- the list of rounds, and the list of members
abbrev pub rounds_of : ListOrderedMultimap → Places
rounds_of m =
    record {
      next = at m.next_value;
      prev = at m.previous_value;
      root = 1024;
      len = m.rounds.len;
      fresh = m.rounds.fresh;
      free = m.rounds.free;
    }

abbrev pub members_of : ListOrderedMultimap → Places
members_of m =
    record {
      next = at m.next_key;
      prev = at m.previous_key;
      root = 256;
      len = m.members.len;
      fresh = m.members.fresh;
      free = m.members.free;
    }

-- the links: both lists, and the records' chains. The head of the member place k is next at 1024 + k, and its tail previous there
abbrev pub links_of : ListOrderedMultimap → Links
links_of m =
    record {
      rounds = rounds_of m;
      members = members_of m;
      key = at m.key_index;
      next = at m.next_index;
      prev = at m.previous_index;
      size = at m.lengths;
    }

-- the round in the place q with the member in its member place
abbrev pub pair_at : ListOrderedMultimap → ℕ → Pair
pair_at m q = record { key = at m.keys (at m.key_index q); value = at m.values q }

-- P: the list of rounds in order, each with its member
abbrev pub pairs : ListOrderedMultimap → List Pair
pairs m = map (pair_at m) (order (rounds_of m))

-- K: the list of members in order
abbrev pub members : ListOrderedMultimap → List ℕ
members m = map (at m.keys) (order (members_of m))

-- the map's limits: the last of its counts
abbrev pub limits_of : ListOrderedMultimap → Limits
limits_of m = limit m.members.limit m.rounds.limit

-- what no link touches is the same: T, which is the counters, and the limits
pub record SameLedger (m r : ListOrderedMultimap) : Type 0 where
  pub taken : r.taken ≡ m.taken
  pub limits : limits_of r ≡ limits_of m

-- P, K, T and the limits
abbrev pub state_of : ListOrderedMultimap → State
state_of m = record { pairs = pairs m; members = members m; taken = m.taken; limits = limits_of m }
