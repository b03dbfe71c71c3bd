-- `reading::get` meets its contract. Assumes nothing.
use mathlib.Core.Path.{sym, ap}
use Rattle.steps.specs.Step.{first}
use Rattle.reading.proofs.Entries.{nobody, somebody, first_read}
use Rattle.reading.proofs.Steps.{does_get}
use Rattle.reading.proofs.get.Goals as goal

pub returns-in_default : goal.returns-in_default
returns-in_default c =
    λ α h g. does_get α g c.args.k (ap first (sym (nobody c.args.map.now α g c.args.k (h.0, h.3) c.find.ensures c.in_default.is).rounds))

pub returns : goal.returns
returns c =
    λ α h g. does_get α g c.args.k
    (first_read c.args.map.now α g c.args.k _ (somebody c.args.map.now α g c.args.k (h.0, h.3) c.find.ensures c.in-At.is) h.1 h.2 c.head.ensures c.round.ensures)
