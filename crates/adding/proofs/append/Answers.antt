-- `adding::append` meets its contract. Assumes nothing.
use mathlib.Core.Path.{refl, sym, ◌∙◌}
use Rattle.std.proofs.lemmas.Bool.{leb-true, leb-false}
use Rattle.steps.specs.Call.{append, present}
use Rattle.answers.proofs.Handed.{handed_on}
use Rattle.multimap.proofs.Posts.{append_full}
use Rattle.adding.proofs.Appends.{does_known, does_new}
use Rattle.adding.proofs.Strange.{strange}
use Rattle.adding.proofs.append.Goals as goal

pub returns-in_err-check_poster : goal.returns-in_err-check_poster
returns-in_err-check_poster c =
    λ wl. strange (append c.args.poster c.args.k c.args.v) c.args.map.now present _ _ refl wl c.in_err-check_poster.ensures c.from_residual.ensures.1

pub returns-then-is_full : goal.returns-then-is_full
returns-then-is_full c =
    λ wl. append_full c.args.poster c.args.k c.args.v c.args.map.now c.in_ok-check_poster.ensures wl
    (leb-true _ _ (sym c.is_full.ensures ∙ c.if-is_full.true))

pub returns-else-is_full : goal.returns-else-is_full
returns-else-is_full c =
    λ wl. does_known c.args.map.now wl c.args.poster c.args.k c.args.v c.in_ok-check_poster.ensures
    (leb-false _ _ (sym c.is_full.ensures ∙ c.if-is_full.false)) _ _ _ (sym c.find.ensures ∙ c.in-At.is) _ c.add.ensures

pub returns-in_err-admit-in-Absent : goal.returns-in_err-admit-in-Absent
returns-in_err-admit-in-Absent c =
    λ wl. handed_on present _ _ c.from_residual-in_err-admit-in-Absent.ensures.1
    (does_new c.args.map.now wl c.args.poster c.args.k c.args.v c.in_ok-check_poster.ensures _ _
    (sym c.find.ensures ∙ c.in-Absent.is) _ _ c.in_err-admit-in-Absent.ensures)

pub returns-in_ok-admit-in-Absent : goal.returns-in_ok-admit-in-Absent
returns-in_ok-admit-in-Absent c =
    λ wl. does_new c.args.map.now wl c.args.poster c.args.k c.args.v c.in_ok-check_poster.ensures _ _
    (sym c.find.ensures ∙ c.in-Absent.is) _ _ c.in_ok-admit-in-Absent.ensures
