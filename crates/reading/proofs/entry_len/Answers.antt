-- `reading::entry_len` meets its contract. Assumes nothing.
use mathlib.Core.Path.{sym, ap}
use lib.ListN.{length}
use Rattle.reading.proofs.Entries.{is_occupied, is_vacant}
use Rattle.reading.proofs.Steps.{does_entry_len}
use Rattle.reading.proofs.entry_len.Goals as goal

pub returns-in-Occupied : goal.returns-in-Occupied
returns-in-Occupied c = λ α h g. does_entry_len α g c.args.k ((is_occupied c.args.map.now α g c.args.k (h.0, h.2) c.in-Occupied.ensures.found).1 h.1)

pub returns-in-Vacant : goal.returns-in-Vacant
returns-in-Vacant c = λ α h g. does_entry_len α g c.args.k (ap length (sym (is_vacant c.args.map.now α g c.args.k (h.0, h.2) c.in-Vacant.ensures.found).rounds))
