-- `packing::clear` meets its contract. Assumes nothing.
use Rattle.packing.proofs.Clears.{clears, stays}
use Rattle.packing.proofs.clear.Goals as goal

pub returns-then-map-eq0 : goal.returns-then-map-eq0
returns-then-map-eq0 c = λ wl. stays c.args.map.now wl c.if-map-eq0.true

pub returns : goal.returns
returns c = λ wl. rw c.vacate.ensures (clears c.args.map.now wl)
