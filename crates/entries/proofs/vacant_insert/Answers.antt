-- `entries::vacant_insert` meets its contract. Assumes nothing.
use mathlib.Core.Path.{refl}
use Rattle.answers.specs.Answers.{done_of}
use Rattle.steps.specs.Call.{vacant_insert}
use Rattle.answers.proofs.Handed.{handed_on}
use Rattle.adding.proofs.Strange.{strange}
use Rattle.entries.proofs.Calls.{there, none_such, not_new, let_in}
use Rattle.entries.proofs.vacant_insert.Goals as goal

pub returns-in_err-check_poster : goal.returns-in_err-check_poster
returns-in_err-check_poster c =
    λ wl. strange (vacant_insert c.args.poster c.args.k c.args.v) c.args.map.now done_of _ _ refl wl c.in_err-check_poster.ensures c.from_residual.ensures.1

pub returns-in_default : goal.returns-in_default
returns-in_default c =
    λ wl. not_new c.args.map.now wl c.args.k c.args.poster c.args.v c.in_ok-check_poster.ensures
    (there c.args.map.now wl c.args.k c.in_default.ensures.reads)

pub returns-in_err-append : goal.returns-in_err-append
returns-in_err-append c =
    λ wl. handed_on done_of _ _ c.from_residual-in_err-append.ensures.1
    (let_in c.args.map.now wl c.args.k c.args.poster c.args.v c.in_ok-check_poster.ensures (none_such c.args.map.now wl c.args.k c.in-Vacant.ensures.reads) _ _ (c.in_err-append.ensures wl))

pub returns : goal.returns
returns c =
    λ wl. let_in c.args.map.now wl c.args.k c.args.poster c.args.v c.in_ok-check_poster.ensures (none_such c.args.map.now wl c.args.k c.in-Vacant.ensures.reads) _ _ (c.in_ok-append.ensures wl)
