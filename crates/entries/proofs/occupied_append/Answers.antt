-- `entries::occupied_append` meets its contract. Assumes nothing.
use mathlib.Core.Path.{refl}
use Rattle.answers.specs.Answers.{done_of}
use Rattle.steps.specs.Call.{occupied_append}
use Rattle.steps.proofs.Checks.{occupied_absent}
use Rattle.answers.proofs.Handed.{handed_on}
use Rattle.adding.proofs.Strange.{strange}
use Rattle.entries.proofs.Calls.{unoccupied, appended}
use Rattle.entries.proofs.occupied_append.Goals as goal

pub returns-in_err-check_poster : goal.returns-in_err-check_poster
returns-in_err-check_poster c =
    λ wl. strange (occupied_append c.args.poster c.args.k c.args.v) c.args.map.now done_of _ _ refl wl c.in_err-check_poster.ensures c.from_residual.ensures.1

pub returns-in_err-check_occupied : goal.returns-in_err-check_occupied
returns-in_err-check_occupied c =
    λ wl. unoccupied c.args.map.now wl c.args.k (occupied_append c.args.poster c.args.k c.args.v)
    (λ none. (occupied_absent c.args.poster c.args.k c.args.v _ c.in_ok-check_poster.ensures (rw none)).0)
    done_of _ _ (c.in_err-check_occupied.ensures wl) c.from_residual-in_err-check_occupied.ensures.1

pub returns-in_err-append : goal.returns-in_err-append
returns-in_err-append c =
    λ wl. handed_on done_of _ _ c.from_residual-in_err-append.ensures.1
    (appended c.args.map.now wl c.args.k c.args.poster c.args.v c.in_ok-check_poster.ensures (c.in_ok-check_occupied.ensures wl) _ _ (c.in_err-append.ensures wl))

pub returns : goal.returns
returns c = λ wl. appended c.args.map.now wl c.args.k c.args.poster c.args.v c.in_ok-check_poster.ensures (c.in_ok-check_occupied.ensures wl) _ _ (c.in_ok-append.ensures wl)
