-- `tapes::print_left` meets its contract. Assumes nothing.
use Rattle.tapes.specs.Printed.{left_text}
use Rattle.tapes.proofs.Holds.{kept_join}
use Rattle.tapes.proofs.print_left.Goals as goal

pub returns : goal.returns
unfolding left_text
returns c =
    kept_join c.put.ensures
    (kept_join c.put_after.ensures
    (kept_join c.put_rows.ensures
    (kept_join c.put-2.ensures
    (kept_join c.put_rows-2.ensures
    (kept_join c.put-3.ensures (kept_join c.put_rows-3.ensures c.put-4.ensures))))))
