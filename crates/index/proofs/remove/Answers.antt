-- `index::remove` meets its contract: what the search answers, and what closing the gap gives. Assumes nothing.
use Rattle.std.proofs.Common.{◌∙◌, sym}
use Rattle.index.proofs.Removes.{removed_at}
use Rattle.index.proofs.remove.Goals as goal

pub returns-in-At : goal.returns-in-At
returns-in-At c = removed_at _ _ _ _ _ _ _ (sym c.find.ensures ∙ c.in-At.is) c.close.ensures
