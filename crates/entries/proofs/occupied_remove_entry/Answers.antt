-- `entries::occupied_remove_entry` meets its contract. Assumes nothing.
use Rattle.answers.specs.Answers.{round_of}
use Rattle.steps.specs.Call.{occupied_remove_entry}
use Rattle.steps.proofs.Checks.{remove_entry_absent}
use Rattle.entries.proofs.Calls.{unoccupied, removed}
use Rattle.entries.proofs.occupied_remove_entry.Goals as goal

pub returns-in_err-check_occupied : goal.returns-in_err-check_occupied
returns-in_err-check_occupied c =
    λ wl. unoccupied c.args.map.now wl c.args.k (occupied_remove_entry c.args.k) (λ none. remove_entry_absent c.args.k _ (rw none))
    round_of _ _ (c.in_err-check_occupied.ensures wl) c.from_residual.ensures.1

pub returns : goal.returns
returns c = λ wl. removed c.args.map.now wl c.args.k (c.in_ok-check_occupied.ensures wl) _ _ (c.remove.ensures wl)
