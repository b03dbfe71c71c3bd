-- The members' chains as the check walks them: along the list of rounds, with the last cell of each chain so far. Assumes nothing.
use Rattle.std.specs.Prelude.{ℕ, ◌+◌, ◌<◌, ◌≡◌, Bool, true, false, Option, None, Some, List, [], length, get_or}
use Rattle.links.specs.Route.{tally, Route}
use Rattle.links.specs.Places.{order}
use Rattle.links.specs.Links.{record_of}
use Rattle.multimap.specs.declared.ListOrderedMultimap.{ListOrderedMultimap}
use Rattle.multimap.specs.Map.{at, rounds_of}
use Rattle.well_linked.specs.declared.Chain.{Chain}

-- the member place k is in use
abbrev pub Used : List Bool → ℕ → Type 0
Used used k = get_or used k false ≡ true

-- the chain of the member place k
abbrev pub chain_at : List Chain → ℕ → Chain
chain_at cs k = get_or cs k (record { last = 0; rounds = 0 })

-- from the cell a the rounds of the member place k among xs are met in order, and then k's base
abbrev pub From : (key next prev : ℕ → ℕ) (xs : List ℕ) (a k : ℕ) → Type 0
From key next prev xs a k = Route next prev a (record_of key k xs) (1024 + k)

-- the cell a is the last of the chain of k
abbrev pub Closed : (next prev : ℕ → ℕ) (a k : ℕ) → Type 0
Closed next prev a k = Route next prev a [] (1024 + k)

-- each round has a member place in use, and each of these a chain of its rounds
pub record Chains (key next prev : ℕ → ℕ) (all : List ℕ) (used : List Bool) : Type 0 where
  pub keys : (q : ℕ) → 0 < tally q all → Used used (key q)
  pub chain : (k : ℕ) → k < 256 → Used used k → From key next prev all (1024 + k) k

-- no round is followed yet
pub record Begun (cs : List Chain) : Type 0 where
  pub bases : (k : ℕ) → k < 256 → chain_at cs k ≡ record { last = 1024 + k; rounds = 0 }
  pub long : length cs ≡ 256

-- All rounds are followed: of each chain, `cs` has the cell that must be its last, and the number of its rounds.
pub record Followed (key next prev : ℕ → ℕ) (all : List ℕ) (used : List Bool) (cs : List Chain) : Type 0 where
  pub keys : (q : ℕ) → 0 < tally q all → Used used (key q)
  pub to : (k : ℕ) → k < 256 → From key next prev all (1024 + k) k → Closed next prev (chain_at cs k).last k
  pub of : (k : ℕ) → k < 256 → Closed next prev (chain_at cs k).last k → From key next prev all (1024 + k) k
  pub counted : (k : ℕ) → k < 256 → (chain_at cs k).rounds ≡ length (record_of key k all)

-- o has the chains where all rounds of m could be followed; nothing means that the rounds are not chained
abbrev pub Walked : ListOrderedMultimap → List Bool → Option (List Chain) → Type 0
Walked m used (Some cs) = Followed (at m.key_index) (at m.next_index) (at m.previous_index) (order (rounds_of m)) used cs
Walked m used None = Chains (at m.key_index) (at m.next_index) (at m.previous_index) (order (rounds_of m)) used → ⊥

-- c has the last cell of the chain of k in m, and its length, which is not 0
pub record End (m : ListOrderedMultimap) (c : Chain) (k : ℕ) : Type 0 where
  pub next : at m.next_index c.last ≡ 1024 + k
  pub prev : at m.previous_index (1024 + k) ≡ c.last
  pub size : at m.lengths k ≡ c.rounds
  pub some : 0 < c.rounds

-- and so for each member place in use
abbrev pub Ends : ListOrderedMultimap → List Bool → List Chain → Type 0
Ends m used cs = (k : ℕ) → k < 256 → Used used k → End m (chain_at cs k) k

-- what a well-linked map asks of its members' records, besides the two lists and the index
pub record Recorded (key next prev long : ℕ → ℕ) (all : List ℕ) (used : List Bool) : Type 0 where
  pub keys : (q : ℕ) → 0 < tally q all → Used used (key q)
  pub chain : (k : ℕ) → k < 256 → Used used k → From key next prev all (1024 + k) k
  pub size : (k : ℕ) → k < 256 → Used used k → long k ≡ length (record_of key k all)
  pub some : (k : ℕ) → k < 256 → Used used k → 0 < length (record_of key k all)

-- this of m, with its rounds in order
abbrev pub Records : ListOrderedMultimap → List Bool → Type 0
Records m used = Recorded (at m.key_index) (at m.next_index) (at m.previous_index) (at m.lengths) (order (rounds_of m)) used
