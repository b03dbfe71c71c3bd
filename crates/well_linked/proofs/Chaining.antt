-- The members' chains, walked along the list of rounds, a round a turn: the chain of a member place holds exactly if the rest of it does,
-- from the last cell so far. Assumes nothing.
use Prim.Native.Nat.{ℕ, ◌+◌, ◌≤◌, ◌<◌}
use mathlib.Core.Path.{◌≡◌, sym, subst}
use mathlib.Core.Logic.{◌⊎◌}
use mathlib.Core.Bool.{Bool, false}
use mathlib.Core.List.{List, [], ◌∷◌}
use native.Mathlib.Omega.{arith}
use borrow.Author.Tests.{eq-eqb}
use lib.Dec.{eqb}
use lib.ListN.{length, get_or, get_or-eq_default}
use Rattle.std.proofs.lemmas.List.{get_or_default}
use Rattle.links.specs.Route.{tally, Route}
use Rattle.links.specs.Links.{record_of}
use Rattle.links.proofs.Routes.{tally_same, length_keep}
use Rattle.index.proofs.Agree.{true_false}
use Rattle.well_linked.specs.declared.Chain.{Chain}
use Rattle.well_linked.specs.Chains.{Used, Chains, chain_at}

-- of the chain of k, whose rounds are `own`: so far it is a, and the rounds in `rest` are still to come
pub record Part (next prev : ℕ → ℕ) (k : ℕ) (own rest : List ℕ) (a : Chain) : Type 0 where
  pub to : Route next prev (1024 + k) own (1024 + k) → Route next prev a.last rest (1024 + k)
  pub of : Route next prev a.last rest (1024 + k) → Route next prev (1024 + k) own (1024 + k)
  pub counted : a.rounds + length rest ≡ length own

-- the rounds `all` and those still to come, with each chain so far
pub record Chaining (key next prev : ℕ → ℕ) (all : List ℕ) (used : List Bool) (cs : List Chain) (rest : List ℕ) : Type 0 where
  pub keys : (q : ℕ) → 0 < tally q all → Used used (key q) ⊎ (0 < tally q rest)
  pub part : (q : ℕ) → 0 < tally q rest → 0 < tally q all
  pub parts : (k : ℕ) → k < 256 → Part next prev k (record_of key k all) (record_of key k rest) (chain_at cs k)
  pub long : length cs ≡ 256

-- what is read of the chain of k, whatever is read past the end
pub read_chain : (cs : List Chain) (k : ℕ) (d : Chain) → length cs ≡ 256 → k < 256 → get_or cs k d ≡ chain_at cs k
read_chain cs k d e l = get_or_default cs k d _ (omega arith)

-- no member place past the marks is in use
pub past : (used : List Bool) (k : ℕ) → length used ≡ 256 → 256 ≤ k → Used used k → ⊥
past used k e h u = true_false u (get_or-eq_default used false {n = k} (omega arith))

-- x is the next round, and k its member place
module _ {key next prev : ℕ → ℕ} {all : List ℕ} {used : List Bool} {cs : List Chain} {rest xs : List ℕ} {x k : ℕ}
    (c : Chaining key next prev all used cs rest) (e : rest ≡ x ∷ xs) (k_is : k ≡ key x) where
  pub in_use : Chains key next prev all used → Used used k
  in_use w = subst (Used used) (sym k_is) (w.keys x (c.part x (rw (e, tally_same) (omega arith))))

  own : record_of key k rest ≡ x ∷ record_of key k xs
  own = rw (e, eq-eqb (key x) k (sym k_is))

  own_part : k < 256 → Part next prev k (record_of key k all) (x ∷ record_of key k xs) (chain_at cs k)
  own_part l = rw own at (c.parts k l)

  -- k's chain goes on with x
  pub joins : k < 256 → Chains key next prev all used → Route next prev (chain_at cs k).last [] x
  joins l w = let p = (own_part l).to (w.chain k l (in_use w)) in (p.0, p.1)

  -- its number of rounds is at most that of all rounds
  pub room : k < 256 → (chain_at cs k).rounds < length all
  room l = omega (arith, (own_part l).counted, length_keep (λ q. eqb (key q) k) all)
