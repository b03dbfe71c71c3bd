-- `reading::contains_key` meets its contract. Assumes nothing.
use mathlib.Core.Path.{sym}
use Rattle.reading.proofs.Entries.{is_occupied, is_vacant}
use Rattle.reading.proofs.Steps.{does_contains}
use Rattle.reading.proofs.contains_key.Goals as goal

pub returns-in-Occupied : goal.returns-in-Occupied
returns-in-Occupied c = λ α h g. does_contains α g c.args.k (is_occupied c.args.map.now α g c.args.k h c.in-Occupied.ensures.found).0

pub returns-in_default : goal.returns-in_default
returns-in_default c = λ α h g. does_contains α g c.args.k (sym (is_vacant c.args.map.now α g c.args.k h c.in_default.ensures.found).absent)
