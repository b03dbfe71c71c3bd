-- `reading::entry` meets its contract. Assumes nothing.
use mathlib.Core.Path.{sym, ap, ◌∙◌}
use Rattle.steps.specs.Call.{occupied}
use Rattle.reading.specs.Entry.{entry_by}
use Rattle.reading.proofs.Entries.{entry_is}
use Rattle.reading.proofs.Steps.{does_entry}
use Rattle.reading.proofs.entry.Goals as goal

pub returns-in-At-clause-reads : goal.returns-in-At-clause-reads
returns-in-At-clause-reads c =
    λ α h g. does_entry α g c.args.k
    (entry_is α g c.args.k
    (rw (h.0, h.1, h.2) at (ap occupied c.size.ensures ∙ ap (entry_by c.args.map.now.lengths c.args.k) (sym c.in-At.is ∙ c.find.ensures))))

pub returns-in-Absent-clause-reads : goal.returns-in-Absent-clause-reads
returns-in-Absent-clause-reads c =
    λ α h g. does_entry α g c.args.k
    (entry_is α g c.args.k (rw (h.0, h.1, h.2) at (ap (entry_by c.args.map.now.lengths c.args.k) (sym c.in-Absent.is ∙ c.find.ensures))))
