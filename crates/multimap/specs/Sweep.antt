-- Members without a round leave, by a walk along the list of members.
use Rattle.std.specs.Prelude.{ℕ, ◌≡◌, List, ◌++◌, eqb}
use Rattle.links.specs.Route.{keep, strip, walk}
use Rattle.links.specs.Places.{order}
use Rattle.links.specs.Links.{Chained}
use Rattle.index.specs.Table.{Holds}
use Rattle.multimap.specs.Map.{at, rounds_of, members_of, links_of, SameLedger}
use Rattle.multimap.specs.declared.ListOrderedMultimap.{ListOrderedMultimap}
use Rattle.multimap.specs.Sized.{Sized}

-- so many member places from `start` on, and those of them that have no round
abbrev pub passed : ListOrderedMultimap → ℕ → ℕ → List ℕ
passed m start turns = walk (at m.next_key) start turns

abbrev pub idle : ListOrderedMultimap → ℕ → ℕ → List ℕ
idle m start turns = keep (λ k. eqb (at m.lengths k) 0) (passed m start turns)

-- lists, chains and index are right, though members may have no round
pub record Sound (m : ListOrderedMultimap) : Type 0 where
  pub sized : Sized m
  pub chained : Chained (links_of m)
  pub index : Holds m.index m.keys (order (members_of m))

-- the places passed are a stretch of the list of members
pub record Sweepable (m : ListOrderedMultimap) (start turns : ℕ) : Type 0 where
  pub sound : Sound m
  pub front : List ℕ
  pub back : List ℕ
  pub whole : order (members_of m) ≡ front ++ (passed m start turns ++ back)

-- r is m, but for the list of members and the index
pub record MembersOnly (m r : ListOrderedMultimap) : Type 0 where
  pub keys : r.keys ≡ m.keys
  pub values : r.values ≡ m.values
  pub key_index : r.key_index ≡ m.key_index
  pub rounds : rounds_of r ≡ rounds_of m
  pub next_index : r.next_index ≡ m.next_index
  pub previous_index : r.previous_index ≡ m.previous_index
  pub lengths : r.lengths ≡ m.lengths
  pub ledger : SameLedger m r

-- r is m without the members in the places ws
pub record Swept (m : ListOrderedMultimap) (ws : List ℕ) (r : ListOrderedMultimap) : Type 0 where
  pub sound : Sound r
  pub left : order (members_of r) ≡ strip ws (order (members_of m))
  pub kept : MembersOnly m r
