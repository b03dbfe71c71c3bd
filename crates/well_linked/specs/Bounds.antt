-- What a well-linked map keeps besides its links and its index: the lengths of its arrays, the counters' bound, and its limits.
use Rattle.multimap.specs.declared.ListOrderedMultimap.{ListOrderedMultimap}
use Rattle.multimap.specs.Sized.{Sized}
use Rattle.multimap.specs.WellLinked.{Counted, Limited}

pub record Bounded (m : ListOrderedMultimap) : Type 0 where
  pub sized : Sized m
  pub taken : Counted m
  pub limited : Limited m
