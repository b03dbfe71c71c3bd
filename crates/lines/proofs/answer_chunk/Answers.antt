-- `lines::answer_chunk` meets its contract. Assumes nothing.
use Prim.Native.Nat.{ℕ}
use native.Mathlib.Omega.{arith}
use lib.ListN.{length-take, length-drop}
use Rattle.lines.proofs.Chunks.{chunk_none, chunk_turn}
use Rattle.lines.proofs.answer_chunk.Goals as goal

pub loop-at-init : goal.loop-at-init
loop-at-init c =
    record {
      chunked = chunk_none c.args.line.now _ _ (omega arith);
      within = omega arith;
      some = λ e. e;
    }

pub loop-at-preserved : goal.loop-at-preserved
loop-at-preserved c =
    record {
      chunked = chunk_turn c.args.chunk.now c.loop-at.at _ c.loop-at.invariant.chunked c.answer_next-next.ensures.chunked;
      within = omega (arith, length-take {A = ℕ}, length-drop {A = ℕ});
      some = λ e. omega arith;
    }
