-- `entries::check_occupied` meets its contract. Assumes nothing.
use mathlib.Core.Path.{refl}
use Rattle.entries.proofs.Calls.{there, none_such}
use Rattle.entries.proofs.check_occupied.Goals as goal

pub returns-in_default : goal.returns-in_default
returns-in_default c = λ wl. (none_such c.args.map.now wl c.args.k c.in_default.ensures.reads, refl)

pub returns : goal.returns
returns c = λ wl. there c.args.map.now wl c.args.k c.in-Occupied.ensures.reads
