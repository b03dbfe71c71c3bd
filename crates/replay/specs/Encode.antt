-- A list of calls written into slices: the numbers, out slices, second out slices and marks from which `decode` reads it again.
use Rattle.std.specs.Prelude.{List, [], ◌∷◌, ◌++◌, ℕ, length}
use Rattle.steps.specs.Call.{Call, view}

-- The slices of a list of calls: seven numbers for each call, all out slices, all second ones, all marks.
abbrev pub numbers : List Call → List ℕ
numbers [] = []
numbers (c ∷ cs) =
    (view c).number ∷ (view c).poster ∷ (view c).k ∷ (view c).v ∷ length (view c).out ∷ length (view c).out2 ∷ length (view c).marks ∷ numbers cs

abbrev pub lent_outs : List Call → List ℕ
lent_outs [] = []
lent_outs (c ∷ cs) = (view c).out ++ lent_outs cs

abbrev pub lent_outs2 : List Call → List ℕ
lent_outs2 [] = []
lent_outs2 (c ∷ cs) = (view c).out2 ++ lent_outs2 cs

abbrev pub all_marks : List Call → List ℕ
all_marks [] = []
all_marks (c ∷ cs) = (view c).marks ++ all_marks cs
