use Prim.Native.Nat.{◌-◌, ◌≤◌}
use mathlib.Core.Path.{◌≡◌}
use lib.ListN.{length, take}
use Rattle.lines.specs.Chunk.{held_of, Chunked}
use Rattle.lines.proofs.answer_chunk.Given as goal

abbrev pub invariant-loop-at : goal.invariant-loop-at
invariant-loop-at l =
    record {
      chunked : Chunked (held_of l.initial.line) (take l.at l.chunk) l.initial.map l.initial.out l.out l.map l.used (held_of l.line);
      within : l.at ≤ length l.chunk;
      some : l.at ≡ 0 → l.used ≡ 0;
    }

abbrev pub decreases-loop-at : goal.decreases-loop-at
decreases-loop-at l = length l.chunk - l.at
