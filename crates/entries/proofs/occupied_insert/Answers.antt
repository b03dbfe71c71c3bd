-- `entries::occupied_insert` meets its contract. Assumes nothing.
use mathlib.Core.Path.{refl}
use Rattle.answers.specs.Answers.{round_of}
use Rattle.steps.specs.Call.{occupied_insert}
use Rattle.steps.proofs.Checks.{occupied_absent}
use Rattle.adding.proofs.Strange.{strange}
use Rattle.entries.proofs.Calls.{unoccupied, inserted}
use Rattle.entries.proofs.occupied_insert.Goals as goal

pub returns-in_err-check_poster : goal.returns-in_err-check_poster
returns-in_err-check_poster c =
    λ wl. strange (occupied_insert c.args.poster c.args.k c.args.v) c.args.map.now round_of _ _ refl wl c.in_err-check_poster.ensures c.from_residual.ensures.1

pub returns-in_err-check_occupied : goal.returns-in_err-check_occupied
returns-in_err-check_occupied c =
    λ wl. unoccupied c.args.map.now wl c.args.k (occupied_insert c.args.poster c.args.k c.args.v)
    (λ none. (occupied_absent c.args.poster c.args.k c.args.v _ c.in_ok-check_poster.ensures (rw none)).1)
    round_of _ _ (c.in_err-check_occupied.ensures wl) c.from_residual-in_err-check_occupied.ensures.1

pub returns : goal.returns
returns c = λ wl. inserted c.args.map.now wl c.args.k c.args.poster c.args.v c.in_ok-check_poster.ensures (c.in_ok-check_occupied.ensures wl) _ _ (c.insert.ensures wl)
