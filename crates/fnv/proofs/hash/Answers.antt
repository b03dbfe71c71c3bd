-- `fnv::hash` meets its contract: two bytes, two bytes, and the four above them. Assumes nothing.
use Rattle.std.proofs.Common.{refl, arith}
use Rattle.fnv.specs.Fnv.{hash_of}
use Rattle.fnv.proofs.Twos.{two_more}
use Rattle.fnv.proofs.hash.Goals as goal

pub returns-then-rest-eq0 : goal.returns-then-rest-eq0
unfolding hash_of
returns-then-rest-eq0 c = two_more 6 _ _ _ 0 c.take-two.ensures (omega arith) c.take.ensures

pub returns-then-upper-eq0 : goal.returns-then-upper-eq0
unfolding hash_of
returns-then-upper-eq0 c =
    two_more 6 _ _ _ _ c.take-two.ensures refl (two_more 4 _ _ _ 0 c.take-four.ensures (omega arith) c.take-then-upper-eq0.ensures)

pub returns-else-upper-eq0 : goal.returns-else-upper-eq0
unfolding hash_of
returns-else-upper-eq0 c =
    two_more 6 _ _ _ _ c.take-two.ensures refl (two_more 4 _ _ _ _ c.take-four.ensures refl c.take-else-upper-eq0.ensures)
