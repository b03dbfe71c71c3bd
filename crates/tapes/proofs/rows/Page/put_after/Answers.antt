-- `tapes::rows::Page::put_after` meets its contract. Assumes nothing.
use Rattle.tapes.proofs.Holds.{kept_join, kept_as}
use Rattle.tapes.proofs.rows.Page.put_after.Goals as goal

pub returns : goal.returns
returns c = kept_join c.put.ensures (kept_as c.put-2.ensures c.decimal.ensures)
