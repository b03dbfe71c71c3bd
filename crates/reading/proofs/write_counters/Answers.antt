-- `reading::write_counters` meets its contract. The loop's invariant: i counters are written. Assumes nothing.
use native.Mathlib.Omega.{arith}
use mathlib.Core.Path.{sym, ◌∙◌}
use lib.ListN.{length}
use Rattle.std.proofs.lemmas.List.{length-take}
use Rattle.reading.proofs.Counters.{all_written}
use Rattle.reading.proofs.Steps.{does_taken}
use Rattle.reading.proofs.write_counters.Goals as goal

pub returns : goal.returns
returns c =
    let t = c.args.map.now.taken in
    λ α h g. does_taken α g c.args.out.now h (c.min-end.ensures ∙ sym (length-take (length c.args.out.now) t))
    (all_written t c.args.out.now {i = c.loop-i.i} c.loop-i.invariant (omega (arith, c.min-end.ensures, c.loop-i-test.false)))
