-- What the loop of `fnv::take` keeps: the bytes that are left, taken in from here on, give what all of them give.
use Rattle.std.proofs.Common.{◌≡◌, ◌-◌}
use Rattle.fnv.specs.Fnv.{fold, bytes}
use Rattle.fnv.proofs.take.Given as goal

abbrev pub invariant-loop-taken : goal.invariant-loop-taken
invariant-loop-taken g l = fold l.fn.h (bytes g.row.N l.fn.x) ≡ fold l.h (bytes (g.row.N - l._taken) l.x)
