-- The ten marked cases of document 01, as a single table. proofs/Marked.antt proves it of the steps.
use Rattle.std.specs.Prelude.{true, false, cond, List, [], ◌∷◌, ◌++◌, ℕ, eqb, length, replicate}
use Rattle.steps.specs.Lists.{any}
use Rattle.steps.specs.State.{State, Pair, Limits, highest}
use Rattle.steps.specs.Call.{Call, Outcome, refused, none, count, present, popped, append, insert_all, remove_all, pop_front, pop_back, retain, pack_to}
use Rattle.steps.specs.Step.{step, say, write}

infixr 90 ◌∶◌
-- a pair, as the document writes it
abbrev pub ◌∶◌ : ℕ → ℕ → Pair
k ∶ v = record { key = k; value = v }

-- the members in order of first appearance, after those already met
abbrev pub firsts : List ℕ → List Pair → List ℕ
firsts met [] = met
firsts met (p ∷ ps) = firsts (cond (any (eqb p.key) met) met (met ++ (p.key ∷ []))) ps

-- T where n rounds were taken in, all by the poster 0
abbrev pub restored : ℕ → List ℕ
restored n = n ∷ replicate 15 0

-- the state of these pairs on a map with the limits l, all posted by 0
abbrev pub start : Limits → List Pair → State
start l ps = record { pairs = ps; members = firsts [] ps; taken = restored (length ps); limits = l }

-- a case: P; the call; its outcome; P and K afterwards
pub record Row : Type 0 where
  pub before : List Pair
  pub call : Call
  pub outcome : Outcome
  pub pairs : List Pair
  pub members : List ℕ

abbrev row : List Pair → Call → Outcome → List Pair → List ℕ → Row
row before call outcome pairs members =
    record { before = before; call = call; outcome = outcome; pairs = pairs; members = members }

abbrev pub table : List Row
table =
    row [] pop_front (say none) [] []
    ∷ row [] (append 0 7 10) (say (present false)) (7 ∶ 10 ∷ []) (7 ∷ [])
    ∷ row (7 ∶ 10 ∷ []) (append 0 7 11) (say (present true)) (7 ∶ 10 ∷ 7 ∶ 11 ∷ []) (7 ∷ [])
    ∷ row (7 ∶ 10 ∷ 9 ∶ 20 ∷ 7 ∶ 11 ∷ []) (insert_all 0 7 12 (1 ∷ 2 ∷ 3 ∷ []))
    (write (count 2) (10 ∷ 11 ∷ 3 ∷ [])) (9 ∶ 20 ∷ 7 ∶ 12 ∷ []) (7 ∷ 9 ∷ [])
    ∷ row (9 ∶ 20 ∷ []) (remove_all 5 (1 ∷ [])) (write (count 0) (1 ∷ [])) (9 ∶ 20 ∷ []) (9 ∷ [])
    ∷ row (9 ∶ 20 ∷ 7 ∶ 12 ∷ []) pop_back (say (popped 7 12 true)) (9 ∶ 20 ∷ []) (9 ∷ [])
    ∷ row (7 ∶ 10 ∷ 7 ∶ 11 ∷ []) pop_front (say (popped 7 10 false)) (7 ∶ 11 ∷ []) (7 ∷ [])
    ∷ row (7 ∶ 10 ∷ 7 ∶ 11 ∷ 7 ∶ 12 ∷ []) (retain (0 ∷ 0 ∷ 1 ∷ []))
    (say (count 1)) (7 ∶ 12 ∷ []) (7 ∷ [])
    ∷ row (7 ∶ 10 ∷ 7 ∶ 11 ∷ []) (retain (0 ∷ 0 ∷ [])) (say (count 0)) [] []
    ∷ row (7 ∶ 10 ∷ 9 ∶ 20 ∷ []) (pack_to 1 2) (say (refused 4)) (7 ∶ 10 ∷ 9 ∶ 20 ∷ []) (7 ∷ 9 ∷ [])
    ∷ []

-- what the steps give at a row: the outcome, P and K; and what the row says
abbrev pub Seen : Type 0
Seen = Outcome × List Pair × List ℕ

abbrev pub given : Row → Seen
given r = let d : Outcome × State = step r.call (start highest r.before) in (d.0, d.1.pairs, d.1.members)

abbrev pub wanted : Row → Seen
wanted r = (r.outcome, r.pairs, r.members)
