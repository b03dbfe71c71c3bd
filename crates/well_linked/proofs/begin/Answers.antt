-- `well_linked::begin` meets its contract: each chain is what its call gave. Assumes nothing.
use borrow.Author.Rules.{rules}
use Rattle.well_linked.proofs.begin.Goals as goal

pub returns : goal.returns
returns c =
    let items = c.from_fn.ensures.items in
    record { bases = λ k l. let call = (items.at k (record { last = 0; rounds = 0 }) l).2.met in search rules; long = items.long }
