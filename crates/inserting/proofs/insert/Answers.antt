-- `inserting::insert` meets its contract. Assumes nothing.
use mathlib.Core.Path.{refl, sym, ◌∙◌}
use Rattle.answers.specs.Answers.{round_of}
use Rattle.steps.specs.Call.{insert}
use Rattle.answers.proofs.Handed.{handed_on}
use Rattle.adding.proofs.Strange.{strange}
use Rattle.inserting.proofs.Inserting.{does_known, does_new}
use Rattle.inserting.proofs.insert.Goals as goal

pub returns-in_err-check_poster : goal.returns-in_err-check_poster
returns-in_err-check_poster c =
    λ wl. strange (insert c.args.poster c.args.k c.args.v) c.args.map.now round_of _ _ refl wl c.in_err-check_poster.ensures c.from_residual.ensures.1

pub returns-in-At : goal.returns-in-At
returns-in-At c =
    λ wl. does_known c.args.map.now wl c.args.poster c.args.k c.args.v c.in_ok-check_poster.ensures
    _ _ _ (sym c.find.ensures ∙ c.in-At.is) c.head.ensures c.round-first.ensures _ c.replace.ensures

pub returns-in_err-admit-in-Absent : goal.returns-in_err-admit-in-Absent
returns-in_err-admit-in-Absent c =
    λ wl. handed_on round_of _ _ c.from_residual-in_err-admit-in-Absent.ensures.1
    (does_new c.args.map.now wl c.args.poster c.args.k c.args.v c.in_ok-check_poster.ensures _ _
    (sym c.find.ensures ∙ c.in-Absent.is) _ _ c.in_err-admit-in-Absent.ensures)

pub returns-in_ok-admit-in-Absent : goal.returns-in_ok-admit-in-Absent
returns-in_ok-admit-in-Absent c =
    λ wl. does_new c.args.map.now wl c.args.poster c.args.k c.args.v c.in_ok-check_poster.ensures _ _
    (sym c.find.ensures ∙ c.in-Absent.is) _ _ c.in_ok-admit-in-Absent.ensures
