-- The list claim of `replay`: demand 3 of the calls that its slices hold, on the map that it gives back and in the slices that it leaves.
use Rattle.std.specs.Prelude.{◌≡◌, List, ℕ, length}
use Rattle.steps.specs.State.{Limits}
use Rattle.steps.specs.Step.{outcomes, over, make_of}
use Rattle.steps.specs.Trace.{Trace}
use Rattle.multimap.specs.Map.{state_of}
use Rattle.multimap.specs.WellLinked.{WellLinked, linked}
use Rattle.multimap.specs.declared.ListOrderedMultimap.{ListOrderedMultimap}
use Rattle.multimap.specs.Demand3.{Demand3}
use Rattle.replay.specs.Tape.{decode, outs_of, outs2_of, answers_of}

-- The calls that the slices hold when the run starts, `n` of them, were run one after the other on the new map with the limits l, each on the map
-- that the one before gave back; m' is the last. Demand 3 holds of them as a whole. The slices now hold what the steps, run from their own new state
-- with these limits, write and answer; what stands past that is kept.
pub record Played (l : Limits) (calls outs outs2 marks ans outs' outs2' ans' : List ℕ) (m' : ListOrderedMultimap) (n : ℕ) : Type 0 where
  pub start : ListOrderedMultimap
  pub start_linked : WellLinked start
  pub start_new : state_of start ≡ (make_of l).1
  pub trace : Trace linked (decode calls outs outs2 marks (length ans)) start (outcomes (decode calls outs outs2 marks (length ans)) (make_of l).1) m'
  pub demand_3 : Demand3 linked (λ m. m) trace
  pub outs_are : outs' ≡ over (outs_of (outcomes (decode calls outs outs2 marks (length ans)) (make_of l).1)) outs
  pub outs2_are : outs2' ≡ over (outs2_of (outcomes (decode calls outs outs2 marks (length ans)) (make_of l).1)) outs2
  pub ans_are : ans' ≡ over (answers_of (outcomes (decode calls outs outs2 marks (length ans)) (make_of l).1)) ans
  pub number : n ≡ length (decode calls outs outs2 marks (length ans))
