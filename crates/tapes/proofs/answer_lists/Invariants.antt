use mathlib.Core.Path.{◌≡◌}
use lib.ListN.{length}
use Rattle.tapes.proofs.Lists.{Lists}
use Rattle.tapes.proofs.answer_lists.Given as goal

abbrev pub invariant-loop-parts : goal.invariant-loop-parts
invariant-loop-parts l =
    (l.page.out.ghost_name ≡ l.initial.page.out.ghost_name) × Lists l.text l.initial.page.out.now l.page.out.now l.page.at l.parts.left.now

abbrev pub decreases-loop-parts : goal.decreases-loop-parts
decreases-loop-parts l = length l.parts.left.now
