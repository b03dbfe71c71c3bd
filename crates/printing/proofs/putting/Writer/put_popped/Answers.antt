-- `printing::putting::Writer::put_popped` meets its contract. Assumes nothing.
use Prim.Native.Nat.{◌≤◌}
use mathlib.Core.Path.{◌≡◌}
use mathlib.Core.Bool.{cond}
use native.Mathlib.Omega.{arith}
use lib.ListN.{length}
use Rattle.std.proofs.Common.{rules}
use Rattle.printing.specs.Reply.{gone_text, stays_text}
use Rattle.printing.proofs.Puts.{wrote_join, wrote_as, wrote_long}
use Rattle.printing.proofs.Runs.{after_long}
use Rattle.printing.proofs.putting.Writer.put_popped.Goals as goal
use Rattle.printing.proofs.putting.Writer.put_popped.Goals.{then-p, else-p}

pub put_after-requires : goal.put_after-requires
put_after-requires c = omega (arith, c.requires, c.put_count.ensures.put.next, wrote_long c.put_count.ensures, after_long 32 c.args.p.member)

pub put-requires : goal.put-requires
put-requires c =
    let p = c.put_count.ensures in
    let q = c.put_after.ensures in
    let short : length c.if-p.put.now ≤ 6 = elim c.if-p.branch [ then-p w ↦ search rules | else-p w ↦ search rules ] in
    omega (arith, c.requires, short, p.put.next, q.put.next, wrote_long p, wrote_long q, after_long 32 c.args.p.member, after_long 32 c.args.p.round)

pub returns : goal.returns
returns c =
    let a = c.args in
    let end : c.if-p.put.now ≡ cond a.p.gone gone_text stays_text = elim c.if-p.branch [ then-p w ↦ search rules | else-p w ↦ search rules ] in
    wrote_join c.put_count.ensures (wrote_join c.put_after.ensures (wrote_as c.put.ensures end))
