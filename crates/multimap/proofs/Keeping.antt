-- A round leaves a well-linked map: what is then kept of the state is kept of the state before. Assumes nothing.
use Prim.Native.Nat.{ℕ, ◌<◌}
use mathlib.Core.Path.{◌≡◌, sym, ap, ◌∙◌}
use mathlib.Core.Bool.{Bool, true}
use mathlib.Core.List.{List, ◌∷◌, ◌++◌, map}
use Rattle.steps.specs.State.{Pair, has, remove_pair, keep}
use Rattle.steps.proofs.Removals.{keep_middle, keep_keep}
use Rattle.links.specs.Route.{tally}
use Rattle.links.specs.Places.{order}
use Rattle.links.proofs.Routes.{Split, split_at}
use Rattle.links.proofs.Lists.{order_without}
use Rattle.multimap.specs.declared.ListOrderedMultimap.{ListOrderedMultimap}
use Rattle.multimap.specs.Map.{pair_at, rounds_of, state_of}
use Rattle.multimap.specs.WellLinked.{WellLinked}
use Rattle.multimap.specs.Popping.{rest, PairGone}
use Rattle.multimap.proofs.Stores.{map-append}
use Rattle.multimap.proofs.Leaving.{all_have}

module _ (a : ListOrderedMultimap) (g : WellLinked a) (x : ℕ) (i : 0 < tally x (order (rounds_of a)))
    {gone : Bool} (o : ListOrderedMultimap) (w : PairGone a x gone o) where
  -- the others are kept
  pub gone_state : state_of o ≡ keep (rest a x) (state_of a)
  gone_state =
      let s : Split x (order (rounds_of a)) = split_at x (order (rounds_of a)) i in
      let f : ℕ → Pair = pair_at a in
      let l : rest a x ≡ map f s.front ++ map f s.back =
      ap (map f) (order_without (rounds_of a) g.chained.rounds s.front x s.back s.whole) ∙ map-append f s.front s.back in
      w.state ∙ ap (λ (ps : List Pair). remove_pair (f x) ps (state_of a)) l
      ∙ keep_middle (map f s.front) (f x) (map f s.back) (state_of a) (all_have a g)
      (ap (map f) s.whole ∙ map-append f s.front (x ∷ s.back))
      ∙ ap (λ (ps : List Pair). keep ps (state_of a)) (sym l)

  -- and so is what is kept of them
  pub gone_keep : (qs : List Pair) → ((j : ℕ) → has j qs ≡ true → has j (rest a x) ≡ true) → keep qs (state_of o) ≡ keep qs (state_of a)
  gone_keep qs h = ap (keep qs) gone_state ∙ keep_keep (rest a x) qs (state_of a) h
