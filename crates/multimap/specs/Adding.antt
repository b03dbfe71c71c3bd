-- A member joins, and a round is added at the back: what each asks of the map, and what it leaves.
use Rattle.std.specs.Prelude.{ℕ, ◌<◌, ◌≡◌, ◌≢◌, [], ◌∷◌, ◌++◌, length}
use Rattle.steps.specs.State.{add, counting}
use Rattle.links.specs.Route.{tally}
use Rattle.links.specs.Places.{order}
use Rattle.links.specs.Links.{Chained, record_in}
use Rattle.index.specs.Table.{Holds, Vacant}
use Rattle.multimap.specs.Map.{at, pairs, members, links_of, members_of, limits_of, state_of, SameLedger}
use Rattle.multimap.specs.WellLinked.{WellLinked, Counted, Limited}
use Rattle.multimap.specs.declared.ListOrderedMultimap.{ListOrderedMultimap}
use Rattle.multimap.specs.Sized.{Sized}

-- m is ready for a round of the member place `key`: the lists, the chains and the index are right, each member but perhaps that one has a
-- round, and there is room for a round
pub record Ready (m : ListOrderedMultimap) (key : ℕ) : Type 0 where
  pub sized : Sized m
  pub chained : Chained (links_of m)
  pub here : 0 < tally key (order (members_of m))
  pub others : (j : ℕ) → 0 < tally j (order (members_of m)) → j ≢ key → 0 < length (record_in (links_of m) j)
  pub index : Holds m.index m.keys (order (members_of m))
  pub counted : Counted m
  pub limited : Limited m
  pub room : m.rounds.len < (limits_of m).rounds

-- r is m with the round v of the member place `key` at the back, counted for the poster
pub record AddedTo (m : ListOrderedMultimap) (poster key v : ℕ) (r : ListOrderedMultimap) : Type 0 where
  pub linked : WellLinked r
  pub pairs : pairs r ≡ pairs m ++ (record { key = at m.keys key; value = v } ∷ [])
  pub members : members r ≡ members m
  pub taken : r.taken ≡ counting poster m.taken
  pub limits : limits_of r ≡ limits_of m

-- k is no member of m and can become one; the search for it ended at the place p of the index
pub record Joins (m : ListOrderedMultimap) (k p : ℕ) : Type 0 where
  pub linked : WellLinked m
  pub spare : m.members.len < (limits_of m).members
  pub room : m.rounds.len < (limits_of m).rounds
  pub vacant : Vacant m.index k p
  pub new : (j : ℕ) → 0 < tally j (order (members_of m)) → at m.keys j ≢ k

-- the place of the last member
abbrev pub last_key : ListOrderedMultimap → ℕ
last_key m = at m.previous_key 256

-- r is m with k as its last member, with no round yet
pub record Joined (m : ListOrderedMultimap) (k : ℕ) (r : ListOrderedMultimap) : Type 0 where
  pub ready : Ready r (last_key r)
  pub number : at r.keys (last_key r) ≡ k
  pub pairs : pairs r ≡ pairs m
  pub members : members r ≡ members m ++ (k ∷ [])
  pub ledger : SameLedger m r

-- r is well-linked and is m with (k, v) added by the poster
pub record Posted (m : ListOrderedMultimap) (poster k v : ℕ) (r : ListOrderedMultimap) : Type 0 where
  pub linked : WellLinked r
  pub state : state_of r ≡ add poster k v (state_of m)
