-- Module 6 of document 01 in its own words: a map's arrays, links, lengths, free places and index represent P and K. proofs/Exactly.antt shows that
-- a map is well-linked exactly when they represent some P and K, K holding each member of P exactly once and no other, each counter of
-- T is at most its bound (document 02, No. 2), and the limits are at most 256 and 1,024 with K and P within them (document 02, No. 1). What `WellLinked` asks beyond is derived there:
-- that each member has a round (`some`), since K holds no other member than P's; that no two members have one number (`Holds.distinct`), since
-- the search finds each; that no place stands twice, in use or freed, by counting.
use Rattle.std.specs.Prelude.{ℕ, ◌+◌, ◌<◌, ◌≤◌, ◌≡◌, cond, List, map, ◌⊎◌, eqb, length}
use Rattle.steps.specs.State.{Pair, of, has, rounds, max_taken}
use Rattle.steps.specs.Accounting.{times}
use Rattle.steps.specs.Proper.{Allowed}
use Rattle.links.specs.Route.{tally, keep, Route}
use Rattle.links.specs.Places.{Places, freed}
use Rattle.index.specs.Search.{search}
use Rattle.index.specs.Agree.{FoundKey}
use Rattle.multimap.specs.Map.{at, pair_at, rounds_of, members_of, limits_of}
use Rattle.multimap.specs.declared.ListOrderedMultimap.{ListOrderedMultimap}
use Rattle.multimap.specs.Sized.{Sized}

-- The places xs are in use in the list l, in this order: next leads from the end cell through them and back, previous the other way; the count
-- is theirs; and each other place that was ever used is met from the first freed one by next, in as many steps as there are others.
pub record InUse (l : Places) (xs : List ℕ) : Type 0 where
  pub linked : Route l.next l.prev l.root xs l.root
  pub counted : l.len ≡ length xs
  pub few : l.len ≤ l.fresh
  pub fits : l.fresh ≤ l.root
  pub others : (q : ℕ) → q < l.fresh → (0 < tally q xs) ⊎ (0 < tally q (freed l))

-- The index t leads to the member places ks, whose numbers stand in keys, and to nothing else: the search for a member's number finds its
-- place; each place of the index is empty or holds one of ks; and none of ks stands in two.
pub record LeadsTo (t keys ks : List ℕ) : Type 0 where
  pub found : (x : ℕ) → 0 < tally x ks → FoundKey x (search t keys (at keys x))
  pub only : (p : ℕ) → p < 512 → (at t p ≡ 65535) ⊎ (0 < tally (at t p) ks)
  pub once : (p q : ℕ) → p < 512 → q < 512 → 0 < tally (at t p) ks → at t p ≡ at t q → p ≡ q

-- The arrays represent the pairs P and the members K.
pub record Represents (m : ListOrderedMultimap) (P : List Pair) (K : List ℕ) : Type 0 where
  pub sized : Sized m
  -- the list of rounds: the places of P's pairs
  pub vs : List ℕ
  pub round_list : InUse (rounds_of m) vs
  pub pairs_are : map (pair_at m) vs ≡ P
  -- the list of members: the places of K's members
  pub ks : List ℕ
  pub member_list : InUse (members_of m) ks
  pub members_are : map (at m.keys) ks ≡ K
  -- the member of each round stands in one of them
  pub owned : (q : ℕ) → 0 < tally q vs → 0 < tally (at m.key_index q) ks
  -- the chain of a member goes through the places of its pairs, in P's order, and its length is that of its record
  pub chain : (x : ℕ) → 0 < tally x ks
      → Route (at m.next_index) (at m.previous_index) (1024 + x) (keep (λ q. of (at m.keys x) (pair_at m q)) vs) (1024 + x)
  pub lengths : (x : ℕ) → 0 < tally x ks → at m.lengths x ≡ length (rounds (at m.keys x) P)
  pub index : LeadsTo m.index m.keys ks

-- Module 6: the arrays represent some P and K, K holds each member of P exactly once and no other, each counter of T is within its bound, the limits are ones
-- that a map may have, and K and P are within them.
pub record Represented (m : ListOrderedMultimap) : Type 0 where
  pub pairs : List Pair
  pub members : List ℕ
  pub represents : Represents m pairs members
  pub exactly : (k : ℕ) → times (eqb k) members ≡ cond (has k pairs) 1 0
  pub taken : (p : ℕ) → at m.taken p ≤ max_taken
  pub allowed : Allowed (limits_of m)
  pub few_members : length members ≤ (limits_of m).members
  pub few_pairs : length pairs ≤ (limits_of m).rounds
