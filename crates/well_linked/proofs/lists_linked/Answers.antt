-- `well_linked::lists_linked` meets its contract: each list is decided. Assumes nothing.
use Rattle.index.proofs.Agree.{decides_map}
use Rattle.well_linked.proofs.lists_linked.Goals as goal

pub returns-then-list_linked : goal.returns-then-list_linked
returns-then-list_linked c =
    let rounds = rw c.new.ensures at c.if-list_linked.ensures in
    decides_map c.list_linked-then-list_linked.result (λ g. (rounds, g)) (λ w. w.1)
    (rw c.new-then-list_linked.ensures at c.list_linked-then-list_linked.ensures)

pub returns-else-list_linked : goal.returns-else-list_linked
returns-else-list_linked c =
    let rounds = rw c.new.ensures at c.if-list_linked.ensures in
    rw c.if-list_linked.false (λ w. rounds w.0)
