-- `ordered_multimap::new` meets its contract. Assumes nothing.
use mathlib.Core.Path.{ap, sym, ◌∙◌}
use Rattle.steps.specs.State.{State}
use Rattle.steps.specs.Call.{Answer}
use Rattle.steps.proofs.Limits.{made_refused, made_done}
use Rattle.ordered_multimap.proofs.new.Goals as goal

pub returns-then-are_too_high : goal.returns-then-are_too_high
returns-then-are_too_high c =
    record {
      answer = sym (ap (λ (r : Answer × State). r.0) (made_refused c.args.limits (sym c.are_too_high.ensures ∙ c.if-are_too_high.true)));
      state = c.new-map.ensures.1;
      linked = c.new-map.ensures.0;
    }

pub returns : goal.returns
returns c =
    record {
      answer = sym (ap (λ (r : Answer × State). r.0) (made_done c.args.limits (sym c.are_too_high.ensures ∙ c.if-are_too_high.false)));
      state = c.new-map.ensures.1;
      linked = c.new-map.ensures.0;
    }
