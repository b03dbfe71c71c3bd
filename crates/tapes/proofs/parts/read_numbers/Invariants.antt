use lib.ListN.{drop}
use Rattle.tapes.specs.Parts.{numbers_of, numbers_from}
use Rattle.tapes.proofs.Holds.{Coming}
use Rattle.tapes.proofs.parts.read_numbers.Given as goal

abbrev pub invariant-loop-b : goal.invariant-loop-b
invariant-loop-b l = Coming l.initial.numbers 0 (numbers_of l.s) l.numbers l.count (numbers_from l.begun (drop l.b-index l.s))
