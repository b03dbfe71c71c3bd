-- The parts of `pack_to`: the members and the rounds of a map are copied out, and a map with no place in use takes them in again.
use Rattle.std.specs.Prelude.{ℕ, suc, ◌≤◌, ◌<◌, ◌≡◌, ◌≢◌, List, map, length, get_or}
use Rattle.steps.specs.State.{Limits}
use Rattle.links.specs.Route.{tally, walk}
use Rattle.links.specs.Places.{order}
use Rattle.links.specs.Stores.{unused}
use Rattle.multimap.specs.declared.ListOrderedMultimap.{ListOrderedMultimap}
use Rattle.multimap.specs.Map.{at, pairs, members, rounds_of, members_of, limits_of, state_of}
use Rattle.multimap.specs.Sweep.{Sound}
use Rattle.multimap.specs.WellLinked.{WellLinked, Packed}

-- 0, 1, .. n - 1
abbrev pub up_to : ℕ → List ℕ
up_to n = walk suc 0 n

-- ---- copied out

-- the places in use of a list, in order, by its next, its end cell and how many there are
abbrev pub listed : List ℕ → ℕ → ℕ → List ℕ
listed next root len = walk (at next) (at next root) len

-- at most n places, all below n, each once
pub record Distinct (xs : List ℕ) (n : ℕ) : Type 0 where
  pub few : length xs ≤ n
  pub inside : (q : ℕ) → 0 < tally q xs → q < n
  pub once : (q : ℕ) → tally q xs ≤ 1

-- the numbers of the member places ks; and at each of these how many come before it
pub record MembersCopied (keys ks numbers ranks : List ℕ) : Type 0 where
  pub number : numbers ≡ map (at keys) ks
  pub rank : (i : ℕ) → i < length ks → at ranks (get_or ks i 0) ≡ i

-- the rounds of the round places vs; and what `ranks` has at the place of each one's member
pub record RoundsCopied (values key_index ranks vs owners scores : List ℕ) : Type 0 where
  pub owner : owners ≡ map (λ q. at ranks (at key_index q)) vs
  pub score : scores ≡ map (at values) vs

-- ---- taken in again

-- the first n of the numbers are at most 256, and no two of them are one
pub record Apart (numbers : List ℕ) (n : ℕ) : Type 0 where
  pub few : n ≤ 256
  pub apart : (i j : ℕ) → i < j → j < n → at numbers i ≢ at numbers j

-- the first n of the numbers are m's members, in the places from 0 on, m has no round and never had one, and its limits are l
pub record Seated (numbers : List ℕ) (l : Limits) (n : ℕ) (m : ListOrderedMultimap) : Type 0 where
  pub sound : Sound m
  pub members : members m ≡ map (at numbers) (up_to n)
  pub places : order (members_of m) ≡ up_to n
  pub fresh : m.members.fresh ≡ n
  pub none : m.rounds ≡ unused (limits_of m).rounds
  pub limits : limits_of m ≡ l

-- m has no round and never had one, and takes n rounds of the member places `owners`
pub record Fillable (owners : List ℕ) (n : ℕ) (m : ListOrderedMultimap) : Type 0 where
  pub sound : Sound m
  pub none : m.rounds ≡ unused (limits_of m).rounds
  pub few : n ≤ 1024
  pub owner : (j : ℕ) → j < n → 0 < tally (at owners j) (order (members_of m))

-- r is m with n rounds, in the places from 0 on
pub record Filled (m : ListOrderedMultimap) (owners scores : List ℕ) (n : ℕ) (r : ListOrderedMultimap) : Type 0 where
  pub sound : Sound r
  pub pairs : pairs r ≡ map (λ j. record { key = at m.keys (at owners j); value = at scores j }) (up_to n)
  pub places : order (rounds_of r) ≡ up_to n
  pub fresh : r.rounds.fresh ≡ n
  pub keys : r.keys ≡ m.keys
  pub members : members_of r ≡ members_of m
  pub limits : limits_of r ≡ limits_of m

-- r is well-linked and stands for what m stands for, with its places from 0 on in order
pub record Repacked (m r : ListOrderedMultimap) : Type 0 where
  pub linked : WellLinked r
  pub state : state_of r ≡ state_of m
  pub packed : Packed r
