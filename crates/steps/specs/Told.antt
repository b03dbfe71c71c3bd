-- What one call leaves, its answer told by four numbers; for any kind of map.
use Rattle.std.specs.Prelude.{◌≡◌, List, ℕ}
use Rattle.steps.specs.Call.{Call, Outcome}
use Rattle.steps.specs.Trace.{Kind, Does}
use Rattle.steps.specs.Coded.{coded}

module _ {Map : Type 0} (M : Kind Map) where
  -- The map, the two lent slices, empty where the call has none, and the answer's numbers.
  pub record Told (c : Call) (m m' : Map) (out out2 ans : List ℕ) : Type 0 where
    pub outcome : Outcome
    pub does : Does M c m outcome m'
    pub out_is : out ≡ outcome.slices.out
    pub out2_is : out2 ≡ outcome.slices.out2
    pub ans_is : ans ≡ coded outcome.answer
