-- Each turn of `line_calls::to_marks` makes one more character its mark.
use Prim.Native.Nat.{◌<◌}
use mathlib.Core.Path.{◌≡◌, refl, ap, ◌∙◌}
use mathlib.Core.Bool.{Bool, true, false, cond}
use native.Mathlib.Omega.{arith}
use mir.Val.{bool_byte}
use lib.Dec.{eqb}
use lib.ListN.{length, get_or, set}
use Rattle.std.proofs.lemmas.List.{get_or_default}
use Rattle.std.proofs.lemmas.List.Edits.{map_over_more}
use Rattle.parsing.specs.Line.{mark_of}
use Rattle.line_calls.proofs.to_marks.Goals as goal

mark_byte : (t : Bool) → bool_byte t ≡ cond t 1 0
mark_byte true = refl
mark_byte false = refl

pub loop-b-preserved : goal.loop-b-preserved
loop-b-preserved c =
    let ys = c.loop-b.bytes in
    let i = c.loop-b.b-index in
    let there : i < length ys = omega arith in
    ap (set ys i) (c.from.ensures ∙ mark_byte (eqb (get_or ys i 0) 49))
    ∙ map_over_more mark_of c.args.bytes.now ys i (get_or ys i 0) c.loop-b-test.true c.loop-b.invariant (get_or_default ys i 0 (get_or ys i 0) there)
