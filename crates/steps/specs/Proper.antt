-- What holds of P, K, T and the limits from the empty state on: what module 6 of document 01 asks of them, with No. 1 and No. 2 of document 02.
use Rattle.std.specs.Prelude.{◌≡◌, cond, ℕ, ◌≤◌, eqb, length, get_or}
use Rattle.steps.specs.State.{State, Limits, empty, has, max_rounds, max_members, max_taken, posters}
use Rattle.steps.specs.Accounting.{times}

-- a map may have these limits
pub record Allowed (l : Limits) : Type 0 where
  pub members : l.members ≤ max_members
  pub rounds : l.rounds ≤ max_rounds

pub record Proper (s : State) : Type 0 where
  -- K holds each member of P exactly once, and no other
  pub once : (k : ℕ) → times (eqb k) s.members ≡ cond (has k s.pairs) 1 0
  pub rounds : length s.pairs ≤ s.limits.rounds
  pub members : length s.members ≤ s.limits.members
  -- T: a counter for each poster, none above the ceiling
  pub posters : length s.taken ≡ posters
  pub taken : (p : ℕ) → get_or s.taken p 0 ≤ max_taken
  pub allowed : Allowed s.limits

-- the state of a new map: empty, with limits that a map may have
pub record New (s : State) : Type 0 where
  pub state : s ≡ empty s.limits
  pub allowed : Allowed s.limits
