-- The entry of a number, by the search for it in the index. On a well-linked map it is the step's (proofs/Entries.antt, `entry_is`).
use Rattle.std.specs.Prelude.{ℕ, List}
use Rattle.steps.specs.Call.{Answer, occupied, vacant}
use Rattle.links.specs.Stores.{at}
use Rattle.index.specs.declared.Found.{Found}
use Rattle.index.specs.declared.Found.TheVariants.{At, Absent}
use Rattle.index.specs.Search.{search}
use Rattle.multimap.specs.declared.ListOrderedMultimap.{ListOrderedMultimap}

-- by what the search says: of a member, how many rounds it has
abbrev pub entry_by : List ℕ → ℕ → Found → Answer
entry_by lengths k (At p x n) = occupied (at lengths x)
entry_by lengths k (Absent p n) = vacant k

abbrev pub entry_in : ListOrderedMultimap → ℕ → Answer
entry_in m k = entry_by m.lengths k (search m.index m.keys k)
