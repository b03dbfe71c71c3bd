-- What is copied to a lent slice, and answered.
use Rattle.std.specs.Prelude.{ℕ, cond, List, map, length}
use Rattle.steps.specs.Call.{Outcome, refused, count}
use Rattle.steps.specs.Step.{short, write, over}
use Rattle.links.specs.Route.{walk}

-- n of the values, each `value` of its place: at the place `first`, and on by `next`
abbrev pub along : {P : Type 0} → (value : P → ℕ) (next : P → P) → P → ℕ → List ℕ
along value next first n = map value (walk next first n)

-- a list is written to the front of a slice and counted; or, where the slice is shorter, refused by 3
abbrev pub writing : List ℕ → List ℕ → Outcome
writing l out = cond (short out l) (write (refused 3) out) (write (count (length l)) (over l out))
