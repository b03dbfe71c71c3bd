-- Rounds that are struck, by a walk along the list of rounds or along a record.
use Rattle.std.specs.Prelude.{ℕ, ◌<◌, ◌≡◌, Bool, true, false, ◌≢◌, List, [], ◌∷◌, ◌++◌, eqb, length}
use Rattle.steps.specs.State.{others}
use Rattle.links.specs.Route.{pick, tally, strip, walk}
use Rattle.links.specs.Places.{order}
use Rattle.links.specs.Links.{Links, record_in, Chained}
use Rattle.index.specs.Table.{Holds}
use Rattle.multimap.specs.Map.{at, pairs, members, rounds_of, members_of, links_of, limits_of, SameLedger}
use Rattle.multimap.specs.WellLinked.{WellLinked, Limited}
use Rattle.multimap.specs.declared.ListOrderedMultimap.{ListOrderedMultimap}
use Rattle.multimap.specs.Sized.{Sized}

-- the places that are walked through: the record of the member place k, or all rounds; and the way from one to the next
abbrev pub course : Bool → Links → ℕ → List ℕ
course true c k = record_in c k
course false c k = order c.rounds

abbrev pub onward : Bool → Links → ℕ → ℕ
onward true c = c.next
onward false c = c.rounds.next

-- so many places from `start` on
abbrev pub visited : Bool → ListOrderedMultimap → ℕ → ℕ → List ℕ
visited b m start turns = walk (onward b (links_of m)) start turns

-- those whose mark is 0, or that have none
abbrev pub chosen : List ℕ → List ℕ → List ℕ
chosen bs [] = []
chosen [] (v ∷ vs) = v ∷ chosen [] vs
chosen (b ∷ bs) (v ∷ vs) = pick (eqb b 0) (v ∷ chosen bs vs) (chosen bs vs)

-- the places visited are a stretch of the course
pub record Stretch (b : Bool) (m : ListOrderedMultimap) (start turns : ℕ) : Type 0 where
  pub chained : Chained (links_of m)
  pub front : List ℕ
  pub back : List ℕ
  pub whole : course b (links_of m) (at m.key_index start) ≡ front ++ (visited b m start turns ++ back)

-- r is m, but for the list of rounds, the chains and the lengths
pub record RoundsOnly (m r : ListOrderedMultimap) : Type 0 where
  pub keys : r.keys ≡ m.keys
  pub values : r.values ≡ m.values
  pub key_index : r.key_index ≡ m.key_index
  pub index : r.index ≡ m.index
  pub members : members_of r ≡ members_of m
  pub ledger : SameLedger m r

-- r is m without the rounds in the places ws
pub record Struck (m : ListOrderedMultimap) (ws : List ℕ) (r : ListOrderedMultimap) : Type 0 where
  pub sized : Sized r
  pub chained : Chained (links_of r)
  pub left : order (rounds_of r) ≡ strip ws (order (rounds_of m))
  pub kept : RoundsOnly m r

-- k is the place of a member of a well-linked map
pub record MemberPlace (m : ListOrderedMultimap) (k : ℕ) : Type 0 where
  pub linked : WellLinked m
  pub inside : 0 < tally k (order (members_of m))

-- x is the place of a round of a well-linked map
pub record RoundPlace (m : ListOrderedMultimap) (x : ℕ) : Type 0 where
  pub linked : WellLinked m
  pub inside : 0 < tally x (order (rounds_of m))

-- r is m without the rounds of the member place k, which is still in the list of members; it is well-linked but for that
pub record Emptied (m : ListOrderedMultimap) (k : ℕ) (r : ListOrderedMultimap) : Type 0 where
  pub sized : Sized r
  pub chained : Chained (links_of r)
  pub index : Holds r.index r.keys (order (members_of r))
  pub member : 0 < tally k (order (members_of r))
  pub none : record_in (links_of r) k ≡ []
  pub some : (j : ℕ) → 0 < tally j (order (members_of r)) → j ≢ k → 0 < length (record_in (links_of r) j)
  pub keys : r.keys ≡ m.keys
  pub ledger : SameLedger m r
  pub limited : Limited r
  pub room : r.rounds.len < (limits_of r).rounds
  pub pairs : pairs r ≡ others (at m.keys k) (pairs m)
  pub members : members r ≡ members m
