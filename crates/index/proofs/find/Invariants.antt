use Rattle.std.proofs.Common.{◌≡◌, ◌+◌, ◌-◌, ◌%◌}
use Rattle.index.specs.Search.{search as searched, look}
use Rattle.index.proofs.find.Given as goal

abbrev pub invariant-loop-before : goal.invariant-loop-before
invariant-loop-before l =
    searched l.index l.keys l.member ≡ look (512 - l.before) l.index l.keys l.member ((l.first + l.before) % 512) l.before
