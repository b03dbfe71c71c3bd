-- How a count is printed with what it counts.
use Rattle.std.specs.Prelude.{ℕ, List, []}
use Rattle.steps.specs.Call.{lend}
use Rattle.printing.specs.Reply.{kept, old, keyed, listed}
use Rattle.printing.specs.declared.Counted.{Counted}
use Rattle.printing.specs.declared.Counted.TheVariants as V

abbrev pub text_with : Counted → ℕ → List ℕ
text_with V.Kept n = kept (lend [] []) n
text_with (V.Old rounds) n = old (lend rounds.now []) n
text_with (V.Members members) n = keyed (lend members.now []) n
text_with (V.Pairs members rounds) n = listed (lend members.now rounds.now) n
