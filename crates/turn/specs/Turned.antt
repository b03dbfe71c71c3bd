-- What `call` does: one call by its number, of a well-linked map as `Calls` says. A slice that the call does not have is left as it is.
use Rattle.std.specs.Prelude.{ℕ, ◌≡◌, Bool, false, cond, List, []}
use Rattle.steps.specs.Call.{Answer, call_of, lends, lends_two, lend}
use Rattle.multimap.specs.declared.ListOrderedMultimap.{ListOrderedMultimap}
use Rattle.multimap.specs.WellLinked.{Calls, CallsTold}

-- a slice where the call has it, else none
abbrev pub had : Bool → List ℕ → List ℕ
had b out = cond b out []

-- the call answers a
pub record Called (op poster k v : ℕ) (m m' : ListOrderedMultimap) (out out2 marks out' out2' : List ℕ) (a : Answer) : Type 0 where
  pub does : Calls (call_of op poster k v out out2 marks) m (record { answer = a; slices = lend (had (lends op) out') (had (lends_two op) out2') }) m'
  pub kept : lends op ≡ false → out' ≡ out
  pub kept2 : lends_two op ≡ false → out2' ≡ out2

-- the same where its answer is told by four numbers
pub record Turned (op poster k v : ℕ) (m m' : ListOrderedMultimap) (out out2 marks out' out2' ans : List ℕ) : Type 0 where
  pub told : CallsTold (call_of op poster k v out out2 marks) m m' (had (lends op) out') (had (lends_two op) out2') ans
  pub kept : lends op ≡ false → out' ≡ out
  pub kept2 : lends_two op ≡ false → out2' ≡ out2
