-- What the loop of `mix` keeps.
use Rattle.entry_values.specs.Reader.{filled_part, remaining}
use Rattle.entry_values.specs.Mix.{given, marks}
use Rattle.entry_values.proofs.Mixing.{Going}
use Rattle.entry_values.proofs.mix.Given as goal

abbrev pub invariant-loop-mark : goal.invariant-loop-mark
invariant-loop-mark l = Going l.order l.fn.out (given (marks l.order) (filled_part l.fn.count l.fn.slice)) (remaining l.reader) l.given l.mark-index l.out
