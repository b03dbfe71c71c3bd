-- The steps of document 01: when a call is refused, and what it does where it is not.
use Rattle.std.specs.Prelude.{Bool, true, false, cond, not, ◌&&◌, ◌||◌, ℕ, eqb, ltb, length, take, drop}
use mathlib.Core.List.{List, [], ◌∷◌, ◌++◌, map, head?, tail, drop_last}
use Rattle.std.proofs.Math.Option.{Option, some}
use Rattle.std.proofs.Math.Option as Opt
use Rattle.steps.specs.Lists.{all, last?}
use Rattle.steps.specs.State as St
use Rattle.steps.specs.State.{State, Pair, full, crowded, absent, rounds, add, replace, remove_member, remove_pair, relist, keep, kept, has, Limits, limit, empty, max_rounds, max_members}
use Rattle.steps.specs.Call.{Call, lend, lent, Answer, Outcome, refused, none, done, round, count, present, popped, occupied, vacant}
use Rattle.steps.specs.Call as C

-- a slice is shorter than what is to be written to it
abbrev pub short {ℓ} : {A : Type ℓ} → List ℕ → List A → Bool
short out l = ltb (length out) (length l)

-- a condition of the table, and its number
abbrev pub Check : Type 0
Check = Bool × ℕ

-- 16, before every other row of a call that adds a round: there is no such poster (document 02, No. 2)
abbrev pub posting : ℕ → List Check → List Check
posting p rows = (ltb 15 p, 16) ∷ rows

-- 1 and 2: a round of k is added
abbrev pub adding : ℕ → State → List Check
adding k s = (full s, 1) ∷ (absent k s && crowded s, 2) ∷ []

-- 1 and 2 of an absent member only
abbrev pub joining : ℕ → State → List Check
joining k s = (absent k s && full s, 1) ∷ (absent k s && crowded s, 2) ∷ []

-- the rows of the table for a call, in order
unfoldable pub checks : Call → State → List Check
checks (C.append p k v) s = posting p (adding k s)
checks (C.insert p k v) s = posting p (joining k s)
checks (C.insert_all p k v out) s =
    posting p (joining k s ++ ((St.present k s && short out (rounds k s.pairs), 3) ∷ []))
checks (C.remove k) s = []
checks (C.remove_all k out) s = (St.present k s && short out (rounds k s.pairs), 3) ∷ []
checks (C.entry k) s = []
checks (C.occupied_append p k v) s = posting p ((absent k s, 9) ∷ adding k s)
checks (C.occupied_insert p k v) s = posting p ((absent k s, 9) ∷ [])
checks (C.occupied_remove_entry k) s = (absent k s, 9) ∷ []
checks (C.vacant_insert p k v) s = posting p ((St.present k s, 10) ∷ joining k s)
checks C.pop_front s = []
checks C.pop_back s = []
checks (C.retain marks) s =
    (not (eqb (length marks) (length s.pairs)), 7) ∷ (not (all (λ m. eqb 0 m || eqb 1 m) marks), 8) ∷ []
checks (C.pack_to m n) s =
    (ltb m (length s.members), 4) ∷ (ltb n (length s.pairs), 5) ∷ (ltb s.limits.members m || ltb s.limits.rounds n, 6) ∷ []
checks C.clear s = []
checks (C.get k) s = []
checks (C.get_all k out) s = (short out (rounds k s.pairs), 3) ∷ []
checks (C.entry_len k) s = []
checks (C.contains_key k) s = []
checks (C.keys out) s = (short out s.members, 3) ∷ []
checks C.keys_len s = []
checks C.values_len s = []
checks (C.iter ks vs) s = (short ks s.pairs || short vs s.pairs, 3) ∷ []
checks (C.taken out) s = []

-- the rows that stand before the first with the number n
abbrev pub ahead : ℕ → List Check → List Check
ahead n [] = []
ahead n (c ∷ cs) = cond (eqb n c.1) [] (c ∷ ahead n cs)

-- the number of the first condition that holds
abbrev pub refusal : List Check → Option ℕ
refusal [] = Opt.none
refusal (c ∷ cs) = cond c.0 (some c.1) (refusal cs)

-- l over the front of a slice; what stands past it is kept
abbrev pub over : List ℕ → List ℕ → List ℕ
over l out = l ++ drop (length l) out

-- the same where a slice may be too short for l: as much of l as it holds
abbrev pub onto : List ℕ → List ℕ → List ℕ
onto l out = take (length out) l ++ drop (length l) out

-- a record's first round, or none
abbrev pub first : List ℕ → Answer
first [] = none
first (v ∷ vs) = round v

-- an outcome with no slice, and with some
abbrev pub say : Answer → Outcome
say a = record { answer = a; slices = lend [] [] }

abbrev pub write : Answer → List ℕ → Outcome
write a out = record { answer = a; slices = lend out [] }

-- the pair at an end, if there is one, and the others
abbrev pub pop : Option Pair → List Pair → State → Outcome × State
pop Opt.none rest s = (say none, s)
pop (some p) rest s = (say (popped p.key p.value (not (has p.key rest))), remove_pair p rest s)

abbrev pub entry_of : Bool → ℕ → State → Answer
entry_of true k s = occupied (length (rounds k s.pairs))
entry_of false k s = vacant k

-- what a call does where it is not refused
unfoldable pub act : Call → State → Outcome × State
act (C.append p k v) s = (say (present (St.present k s)), add p k v s)
act (C.insert p k v) s = (say (first (rounds k s.pairs)), replace p k v s)
act (C.insert_all p k v out) s =
    (write (count (length (rounds k s.pairs))) (over (rounds k s.pairs) out), replace p k v s)
act (C.remove k) s = (say (first (rounds k s.pairs)), remove_member k s)
act (C.remove_all k out) s =
    (write (count (length (rounds k s.pairs))) (over (rounds k s.pairs) out), remove_member k s)
act (C.entry k) s = (say (entry_of (St.present k s) k s), s)
act (C.occupied_append p k v) s = (say done, add p k v s)
act (C.occupied_insert p k v) s = (say (first (rounds k s.pairs)), replace p k v s)
act (C.occupied_remove_entry k) s = (say (first (rounds k s.pairs)), remove_member k s)
act (C.vacant_insert p k v) s = (say done, add p k v s)
act C.pop_front s = pop (head? s.pairs) (tail s.pairs) s
act C.pop_back s = pop (last? s.pairs) (drop_last s.pairs) s
act (C.retain marks) s =
    (say (count (length (kept marks s.pairs))), keep (kept marks s.pairs) s)
act (C.pack_to m n) s = (say done, s)
act C.clear s = (say done, relist [] [] s)
act (C.get k) s = (say (first (rounds k s.pairs)), s)
act (C.get_all k out) s =
    (write (count (length (rounds k s.pairs))) (over (rounds k s.pairs) out), s)
act (C.entry_len k) s = (say (count (length (rounds k s.pairs))), s)
act (C.contains_key k) s = (say (present (St.present k s)), s)
act (C.keys out) s = (write (count (length s.members)) (over s.members out), s)
act C.keys_len s = (say (count (length s.members)), s)
act C.values_len s = (say (count (length s.pairs)), s)
act (C.iter ks vs) s =
    (record { answer = count (length s.pairs); slices = lend (over (map (λ p. p.key) s.pairs) ks) (over (map (λ p. p.value) s.pairs) vs) }, s)
act (C.taken out) s = (write (count (length (take (length out) s.taken))) (onto s.taken out), s)

-- the outcome of a refusal by n: its number, and the slices as they were
abbrev pub refusing : Call → ℕ → Outcome
refusing c n = record { answer = refused n; slices = lent c }

-- a refusal leaves the state as it is
abbrev pub settle : Option ℕ → Call → State → Outcome × State
settle (some n) c s = (refusing c n, s)
settle Opt.none c s = act c s

unfoldable pub step : Call → State → Outcome × State
step c s = settle (refusal (checks c s)) c s

-- a list of calls: what each answers, and the state after the last
unfoldable pub outcomes : List Call → State → List Outcome
outcomes [] s = []
outcomes (c ∷ cs) s = (step c s).0 ∷ outcomes cs (step c s).1

unfoldable pub after : List Call → State → State
after [] s = s
after (c ∷ cs) s = after cs (step c s).1

-- ---- a new map (document 02, No. 1)

-- a map may not have these limits
abbrev pub too_high : Limits → Bool
too_high l = ltb max_members l.members || ltb max_rounds l.rounds

-- the row of the table for making a map with these limits
abbrev pub making : Limits → List Check
making l = (too_high l, 15) ∷ []

-- a refused making gives the empty map with both limits 0; any other with the limits given
abbrev pub made : Option ℕ → Limits → Answer × State
made (some n) l = (refused n, empty (limit 0 0))
made Opt.none l = (done, empty l)

unfoldable pub make_of : Limits → Answer × State
make_of l = made (refusal (making l)) l
