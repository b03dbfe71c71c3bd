-- `reading::values_len` meets its contract. Assumes nothing.
use Rattle.reading.proofs.Steps.{does_values_len}
use Rattle.reading.proofs.values_len.Goals as goal

pub returns : goal.returns
returns c = λ α h g. does_values_len α g (rw h)
