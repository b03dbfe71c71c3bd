-- `printing::putting::Writer::put_counted` meets its contract. Assumes nothing.
use mathlib.Core.Path.{sym, ap}
use native.Mathlib.Omega.{arith}
use lib.ListN.{length, length-take}
use Rattle.printing.specs.Counts.{text_with}
use Rattle.printing.specs.Text.{values}
use Rattle.printing.proofs.Puts.{wrote_join, wrote_as, wrote_long}
use Rattle.printing.proofs.Runs.{after_long, values_long, pairs_long}
use Rattle.printing.proofs.Sayings.{old_at}
use Rattle.printing.proofs.putting.Writer.put_counted.Goals as goal

pub put_values-requires : goal.put_values-requires
put_values-requires c =
    let w = c.put_count-in-Old.ensures in
    omega (arith, c.requires, old_at _ w, wrote_long w, ap length c.first.ensures, length-take c.args.n c.in-Old.rounds.now)

pub returns-in-Kept-clause-short : goal.returns-in-Kept-clause-short
returns-in-Kept-clause-short c = omega (arith, c.put_count.ensures.put.next, after_long 32 c.args.n)

pub returns-in-Old-clause-wrote : goal.returns-in-Old-clause-wrote
returns-in-Old-clause-wrote c =
    let w = wrote_join c.put_count-in-Old.ensures (wrote_as c.put_values.ensures (ap values c.first.ensures)) in
    wrote_as w (ap (λ k. text_with k c.args.n) (sym c.in-Old.is))

pub returns-in-Old-clause-short : goal.returns-in-Old-clause-short
returns-in-Old-clause-short c =
    let vs = c.first.result.now in
    omega (arith, old_at _ c.put_count-in-Old.ensures, c.put_values.ensures.put.next, values_long vs, ap length c.first.ensures, length-take c.args.n c.in-Old.rounds.now)

pub returns-in-Members-clause-short : goal.returns-in-Members-clause-short
returns-in-Members-clause-short c =
    let ks = c.first-in-Members.result.now in
    omega (arith, c.put.ensures.put.next, c.put_values-in-Members.ensures.put.next, values_long ks, ap length c.first-in-Members.ensures, length-take c.args.n c.in-Members.members.now)

pub returns-in-Pairs-clause-short : goal.returns-in-Pairs-clause-short
returns-in-Pairs-clause-short c =
    let ks = c.first-in-Pairs.result.now in
    let vs = c.first-in-Pairs-2.result.now in
    omega (arith, c.put-in-Pairs.ensures.put.next, c.put_pairs.ensures.put.next, pairs_long ks vs, ap length c.first-in-Pairs.ensures, length-take c.args.n c.in-Pairs.members.now)
