-- `image::read_sizes` meets its contract, by the laws of proofs/Restores.antt. Assumes nothing.
use borrow.Author.Tests.{lt-ltb, le-ltb}
use Rattle.image.proofs.Numbers.{size_read}
use Rattle.image.proofs.Restores.{read_short, says_many, says_length}
use Rattle.image.proofs.read_sizes.Goals as goal
use Rattle.image.proofs.read_sizes.Goals.{then-limits-n-via-then-limits-n, then-limits-n-via-else-limits-n+then-limits-m}

pub returns-in_default : goal.returns-in_default
returns-in_default c ok = read_short _ c.args.s.now ok c.in_default.len_below

pub returns-then-limits-n : goal.returns-then-limits-n
returns-then-limits-n c =
    says_many _ c.args.s.now c.in-len8-up.len_at_least _ _
    (size_read c.args.s.now 0 c.from_le_bytes-n.ensures) (size_read c.args.s.now 4 c.from_le_bytes-m.ensures)
    (rw (← c.limits.view_is)
    (elim c.then-limits-n.branch [
      | then-limits-n-via-then-limits-n w ↦ rw (lt-ltb _ c.from_le_bytes-n.result w.if-limits-n.true)
      | then-limits-n-via-else-limits-n+then-limits-m w ↦
          rw (le-ltb _ c.from_le_bytes-n.result w.if-limits-n.false) (lt-ltb _ c.from_le_bytes-m.result w.if-limits-m.true)
    ]))

pub returns-then-s-rounds : goal.returns-then-s-rounds
returns-then-s-rounds c =
    says_length _ c.args.s.now c.in-len8-up.len_at_least _ _
    (size_read c.args.s.now 0 c.from_le_bytes-n.ensures) (size_read c.args.s.now 4 c.from_le_bytes-m.ensures)
    (rw (← c.limits.view_is) c.if-limits-n.false) (rw (← c.limits.view_is) c.if-limits-m.false) c.if-s-rounds.true

pub returns : goal.returns
returns c =
    record {
      enough = c.in-len8-up.len_at_least;
      rounds = size_read c.args.s.now 0 c.from_le_bytes-n.ensures;
      members = size_read c.args.s.now 4 c.from_le_bytes-m.ensures;
      few = rw (← c.limits.view_is) c.if-limits-n.false;
      few_members = rw (← c.limits.view_is) c.if-limits-m.false;
      long = c.if-s-rounds.false;
    }
