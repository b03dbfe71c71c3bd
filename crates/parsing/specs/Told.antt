-- What the answers of the parser's functions say.
use Rattle.std.specs.Prelude.{ℕ, List, map, drop}
use Rattle.parsing.specs.Line as L
use Rattle.parsing.specs.declared.Request.{Request}
use Rattle.parsing.specs.declared.Request.TheVariants as R

-- the marks of a line are those after its first two bytes
abbrev pub told : Request → List ℕ → L.Line
told (R.Adds k v) l = L.adds k v
told (R.Inserts k v) l = L.inserts k v
told (R.Removes k) l = L.removes k
told R.Front l = L.front
told R.Back l = L.back
told R.Keeps l = L.keeps (map L.mark_of (drop 2 l))
told R.Lists l = L.lists
told R.Members l = L.members
told R.Bad l = L.bad
