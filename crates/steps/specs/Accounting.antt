-- What becomes of the rounds over a list of calls: accepted, handed out, dropped, held (document 01, "The steps").
use Rattle.std.specs.Prelude.{Bool, true, false, cond, List, [], ◌∷◌, ℕ, zero, suc, ◌+◌, ◌-◌, eqb, length}
use Rattle.steps.specs.Lists.{filter}
use Rattle.steps.specs.State.{State, posters, rounds}
use Rattle.steps.specs.Call.{Call, Answer, Outcome, refused, none, done, round, count, present, popped, occupied, vacant}
use Rattle.steps.specs.Call as C
use Rattle.steps.specs.Step.{step}

-- how many elements of a list pass a test
abbrev pub times : {A : Type 0} → (A → Bool) → List A → ℕ
times f l = length (filter f l)

abbrev pub is_refused : Answer → Bool
is_refused (refused n) = true
is_refused none = false
is_refused done = false
is_refused (round v) = false
is_refused (count n) = false
is_refused (present b) = false
is_refused (popped k v b) = false
is_refused (occupied n) = false
is_refused (vacant k) = false

-- the rounds in an answer, or counted by it as written out
abbrev pub rounds_in : Answer → ℕ
rounds_in (refused n) = 0
rounds_in none = 0
rounds_in done = 0
rounds_in (round v) = 1
rounds_in (count n) = n
rounds_in (present b) = 0
rounds_in (popped k v b) = 1
rounds_in (occupied n) = 0
rounds_in (vacant k) = 0

pub record Flow : Type 0 where
  -- of each poster
  pub accepted : ℕ → ℕ
  pub handed : ℕ
  pub dropped : ℕ

abbrev flow : (ℕ → ℕ) → ℕ → ℕ → Flow
flow a h d = record { accepted = a; handed = h; dropped = d }

-- one round, by the poster p; and none
abbrev pub by : ℕ → ℕ → ℕ
by p q = cond (eqb q p) 1 0

abbrev pub nobody : ℕ → ℕ
nobody q = 0

-- the rounds of the posters below n, and of all posters summed
unfoldable pub sum_to : ℕ → (ℕ → ℕ) → ℕ
sum_to zero f = 0
sum_to (suc n) f = sum_to n f + f n

abbrev pub total : (ℕ → ℕ) → ℕ
total f = sum_to posters f

-- the rounds that a call which is not refused accepts, hands out and drops, by the state before it and its answer
unfoldable pub moved : Call → State → Answer → Flow
moved (C.append p k v) s a = flow (by p) 0 0
moved (C.insert p k v) s a = flow (by p) (rounds_in a) (length (rounds k s.pairs) - 1)
moved (C.insert_all p k v out) s a = flow (by p) (rounds_in a) 0
moved (C.remove k) s a = flow nobody (rounds_in a) (length (rounds k s.pairs) - 1)
moved (C.remove_all k out) s a = flow nobody (rounds_in a) 0
moved (C.entry k) s a = flow nobody 0 0
moved (C.occupied_append p k v) s a = flow (by p) (rounds_in a) 0
moved (C.occupied_insert p k v) s a = flow (by p) (rounds_in a) (length (rounds k s.pairs) - 1)
moved (C.occupied_remove_entry k) s a = flow nobody (rounds_in a) (length (rounds k s.pairs) - 1)
moved (C.vacant_insert p k v) s a = flow (by p) 0 0
moved C.pop_front s a = flow nobody (rounds_in a) 0
moved C.pop_back s a = flow nobody (rounds_in a) 0
moved (C.retain marks) s a = flow nobody 0 (times (eqb 0) marks)
moved (C.pack_to m n) s a = flow nobody 0 0
moved C.clear s a = flow nobody 0 (length s.pairs)
moved (C.get k) s a = flow nobody 0 0
moved (C.get_all k out) s a = flow nobody 0 0
moved (C.entry_len k) s a = flow nobody 0 0
moved (C.contains_key k) s a = flow nobody 0 0
moved (C.keys out) s a = flow nobody 0 0
moved C.keys_len s a = flow nobody 0 0
moved C.values_len s a = flow nobody 0 0
moved (C.iter ks vs) s a = flow nobody 0 0
moved (C.taken out) s a = flow nobody 0 0

-- the same of any call: a refused one moves none
abbrev pub moves : Call → State → Outcome → Flow
moves c s o = cond (is_refused o.answer) (flow nobody 0 0) (moved c s o.answer)

-- the same over a list of calls
abbrev pub plus : Flow → Flow → Flow
plus f g = flow (λ q. f.accepted q + g.accepted q) (f.handed + g.handed) (f.dropped + g.dropped)

unfoldable pub flow_of : List Call → State → Flow
flow_of [] s = flow nobody 0 0
flow_of (c ∷ cs) s = plus (moves c s (step c s).0) (flow_of cs (step c s).1)
