-- `reading::keys` meets its contract. Assumes nothing.
use Rattle.reading.proofs.Steps.{does_keys}
use Rattle.reading.proofs.keys.Goals as goal

pub returns : goal.returns
returns c = λ α h g. does_keys α g _ c.args.out.now _ c.args.map.now h c.first_member.ensures c.copy.ensures
