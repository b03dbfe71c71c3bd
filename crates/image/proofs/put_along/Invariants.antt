use lib.ListN.{length}
use Rattle.image.specs.Running.{Running, image_in}
use Rattle.image.proofs.put_along.Given as goal

abbrev pub invariant-loop-x : goal.invariant-loop-x
invariant-loop-x l = Running l.map.next_value (image_in l.map) l.initial.out l.map.rounds.len (length l.yielded) l.x-iterator l.first l.second l.out
