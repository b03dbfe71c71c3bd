-- Demand 3 holds of every list of calls by value on a new well-linked record, such as `new` makes. Assumes nothing.
use mathlib.Core.List.{List}
use Rattle.steps.specs.Call.{Call, Outcome}
use Rattle.steps.specs.Proper.{New}
use Rattle.steps.specs.Trace.{Trace}
use Rattle.multimap.specs.Map.{state_of}
use Rattle.multimap.specs.WellLinked.{WellLinked, linked}
use Rattle.multimap.specs.Demand3.{Demand3}
use Rattle.multimap.specs.declared.ListOrderedMultimap.{ListOrderedMultimap}
use Rattle.multimap.proofs.Demand3 as general

pub demand_3 : {cs : List Call} {m m' : ListOrderedMultimap} {os : List Outcome} (t : Trace linked cs m os m')
    → WellLinked m → New (state_of m) → Demand3 linked (λ m. m) t
demand_3 t = general.demand_3 linked (λ m. m) (λ m h. h) t
