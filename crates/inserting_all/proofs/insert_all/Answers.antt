-- `inserting_all::insert_all` meets its contract. Assumes nothing.
use mathlib.Core.Path.{refl, sym, ◌∙◌}
use Rattle.steps.specs.Call.{insert_all, count}
use Rattle.answers.proofs.Handed.{handed_on}
use Rattle.adding.proofs.Strange.{strange}
use Rattle.inserting_all.proofs.InsertingAll.{does_short, does_known, does_new}
use Rattle.inserting_all.proofs.insert_all.Goals as goal

pub returns-in_err-check_poster : goal.returns-in_err-check_poster
returns-in_err-check_poster c =
    λ wl. strange (insert_all c.args.poster c.args.k c.args.v c.args.out.now) c.args.map.now count _ _ refl wl c.in_err-check_poster.ensures c.from_residual.ensures.1

pub returns-in_err-n-in-At : goal.returns-in_err-n-in-At
returns-in_err-n-in-At c =
    λ wl. handed_on count _ _ c.from_residual-in_err-n-in-At.ensures.1
    (does_short c.args.map.now wl c.args.poster c.args.k c.args.v c.in_ok-check_poster.ensures c.args.out.now
    _ _ _ (sym c.find.ensures ∙ c.in-At.is) c.head-head.ensures c.size-size.ensures _ _ c.in_err-n-in-At.ensures)

pub returns-in_ok-n-in-At : goal.returns-in_ok-n-in-At
returns-in_ok-n-in-At c =
    λ wl. does_known c.args.map.now wl c.args.poster c.args.k c.args.v c.in_ok-check_poster.ensures c.args.out.now
    _ _ _ (sym c.find.ensures ∙ c.in-At.is) c.head-head.ensures c.size-size.ensures _ _ c.in_ok-n-in-At.ensures _ c.replace.ensures

pub returns-in_err-admit-in-Absent : goal.returns-in_err-admit-in-Absent
returns-in_err-admit-in-Absent c =
    λ wl. handed_on count _ _ c.from_residual-in_err-admit-in-Absent.ensures.1
    (does_new c.args.map.now wl c.args.poster c.args.k c.args.v c.in_ok-check_poster.ensures c.args.out.now _ _
    (sym c.find.ensures ∙ c.in-Absent.is) _ _ c.in_err-admit-in-Absent.ensures)

pub returns-in_ok-admit-in-Absent : goal.returns-in_ok-admit-in-Absent
returns-in_ok-admit-in-Absent c =
    λ wl. does_new c.args.map.now wl c.args.poster c.args.k c.args.v c.in_ok-check_poster.ensures c.args.out.now _ _
    (sym c.find.ensures ∙ c.in-Absent.is) _ _ c.in_ok-admit-in-Absent.ensures
