-- `multimap::new` meets its contract. Assumes nothing.
use mathlib.Core.Path.{ap, sym, ◌∙◌}
use Rattle.steps.specs.State.{State}
use Rattle.steps.specs.Call.{Answer}
use Rattle.steps.proofs.Limits.{made_refused, made_done}
use Rattle.multimap.proofs.new.Goals as goal

pub returns-then-are_too_high : goal.returns-then-are_too_high
returns-then-are_too_high c =
    let e = sym c.are_too_high.ensures ∙ c.if-are_too_high.true in
    (c.bare.ensures.0, c.bare.ensures.1 ∙ sym (ap (λ (r : Answer × State). r.1) (made_refused c.args.limits e)))

pub returns : goal.returns
returns c =
    let e = sym c.are_too_high.ensures ∙ c.if-are_too_high.false in
    (c.bare-2.ensures.0, c.bare-2.ensures.1 ∙ sym (ap (λ (r : Answer × State). r.1) (made_done c.args.limits e)))
