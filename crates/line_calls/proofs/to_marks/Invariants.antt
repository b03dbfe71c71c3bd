use mathlib.Core.Path.{◌≡◌}
use mathlib.Core.List.{◌++◌, map}
use lib.ListN.{take, drop}
use Rattle.parsing.specs.Line.{mark_of}
use Rattle.line_calls.proofs.to_marks.Given as goal

abbrev pub invariant-loop-b : goal.invariant-loop-b
invariant-loop-b l = l.bytes ≡ map mark_of (take l.b-index l.initial.bytes) ++ drop l.b-index l.initial.bytes
