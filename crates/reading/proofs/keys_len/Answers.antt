-- `reading::keys_len` meets its contract. Assumes nothing.
use Rattle.reading.proofs.Steps.{does_keys_len}
use Rattle.reading.proofs.keys_len.Goals as goal

pub returns : goal.returns
returns c = λ α h g. does_keys_len α g (rw h)
