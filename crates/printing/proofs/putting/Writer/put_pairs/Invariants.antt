use lib.ListN.{length, take}
use Rattle.std.specs.List.{flat_map, zip}
use Rattle.printing.specs.Put.{Wrote}
use Rattle.printing.specs.Text.{paired}
use Rattle.printing.proofs.putting.Writer.put_pairs.Given as goal

abbrev pub invariant-loop-member : goal.invariant-loop-member
invariant-loop-member l =
    (goal.iterator-loop-member).can_next l.member-iterator
    × (goal.iterator-loop-member).is_finite l.member-iterator
    × Wrote l.initial.self (flat_map paired (take (length l.yielded) (zip l.members l.rounds))) l.self
