-- A walk along a list that tests the links back, a place a turn: the whole route holds exactly if the rest of it does. Assumes nothing.
use Prim.Native.Nat.{ℕ}
use mathlib.Core.Path.{◌≡◌, sym, ap, ◌∙◌, subst}
use mathlib.Core.List.{List, []}
use lib.ListN.{length}
use Rattle.links.specs.Route.{walk, Route}
use Rattle.links.proofs.Lists.{length_walk}

-- at the cell `here`, with the places `left` of `all` still to come
pub record Going (n p : ℕ → ℕ) (z root : ℕ) (all : List ℕ) (here : ℕ) (left : List ℕ) : Type 0 where
  pub way : left ≡ walk n (n here) (length left)
  pub to : Route n p root all z → Route n p here left z
  pub of : Route n p here left z → Route n p root all z

pub going_none : (n p : ℕ → ℕ) (z root many : ℕ) {left : List ℕ} → left ≡ walk n (n root) many → Going n p z root (walk n (n root) many) root left
going_none n p z root many e =
    record {
      way = e ∙ ap (walk n (n root)) (sym (ap length e ∙ length_walk n (n root) many));
      to = λ w. rw e w;
      of = λ w. rw e at w;
    }

module _ {n p : ℕ → ℕ} {z root here : ℕ} {all left : List ℕ} (g : Going n p z root all here left) where
  module _ (e : left ≡ []) where
    pub last : Route n p root all z → Route n p here [] z
    last w = subst (λ (l : List ℕ). Route n p here l z) e (g.to w)
