use lib.ListN.{take}
use Rattle.parsing.specs.Split.{Held}
use Rattle.tapes.specs.Parts.{marks_of}
use Rattle.tapes.proofs.parts.read_marks.Given as goal

abbrev pub invariant-loop-b : goal.invariant-loop-b
invariant-loop-b l = Held (marks_of (take l.b-index l.s)) l.initial.marks 0 l.marks l.count
