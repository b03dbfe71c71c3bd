-- The turns of `fill`: rounds are added one after the other, in the places from 0 on. Assumes nothing.
use Prim.Native.Nat.{ℕ, ◌+◌, ◌<◌}
use mathlib.Core.Path.{◌≡◌, sym, ap, ◌∙◌, subst}
use mathlib.Core.List.{List, [], ◌∷◌, ◌++◌}
use native.Mathlib.Omega.{arith}
use lib.ListN.{length}
use Rattle.steps.specs.State.{Pair}
use Rattle.links.specs.Route.{tally}
use Rattle.links.specs.Places.{Places, order}
use Rattle.links.specs.Stores.{spot}
use Rattle.links.proofs.Lists.{length_order}
use Rattle.multimap.specs.declared.ListOrderedMultimap.{ListOrderedMultimap}
use Rattle.multimap.specs.Map.{at, pairs, rounds_of, members_of}
use Rattle.multimap.specs.Changes.{with_round}
use Rattle.multimap.proofs.Builds.{round_order, round_pairs, round_sound}
use Rattle.packing.specs.Building.{up_to, Fillable, Filled}
use Rattle.packing.proofs.Lists.{up_more, map_more, length_up}
use Rattle.packing.proofs.Seats.{spot_up, fresh_up}

module _ (owners scores : List ℕ) (n : ℕ) (m : ListOrderedMultimap) (g : Fillable owners n m) where
  abbrev pair : ℕ → Pair
  pair j = record { key = at m.keys (at owners j); value = at scores j }

  module _ (j : ℕ) (r : ListOrderedMultimap) (f : Filled m owners scores j r) (more : j < n) where
    held : r.rounds.len ≡ j
    held = sym (length_order (rounds_of r)) ∙ ap length f.places ∙ length_up j

    here : 0 < tally (at owners j) (order (members_of r))
    here = subst (λ (l : Places). 0 < tally (at owners j) (order l)) (sym f.members) (g.owner j more)

    room : r.rounds.len < 1024
    room = omega (arith, held, g.few)

    pub fill_more : Filled m owners scores (j + 1) (with_round r 0 (at owners j) (at scores j))
    fill_more =
        let k : ℕ = at owners j in
        let v : ℕ = at scores j in
        record {
          sound = round_sound r f.sound k here room 0 v;
          pairs =
              round_pairs r f.sound k here room 0 v
              ∙ ap (λ (keys : List ℕ). pairs r ++ (record { key = at keys k; value = v } ∷ [])) f.keys
              ∙ ap (λ (ps : List Pair). ps ++ (pair j ∷ [])) f.pairs
              ∙ sym (map_more pair j);
          places =
              round_order r f.sound k here room 0 v
              ∙ ap (λ (qs : List ℕ). qs ++ (spot r.rounds ∷ [])) f.places
              ∙ ap (λ (y : ℕ). up_to j ++ (y ∷ [])) (spot_up r.rounds j held f.fresh)
              ∙ sym (up_more j);
          fresh = fresh_up r.rounds j held f.fresh r.next_value (omega (arith, g.few));
          keys = f.keys;
          members = f.members;
          limits = f.limits;
        }

-- the loop goes on
pub fills_more : (owners scores : List ℕ) (n : ℕ) (m : ListOrderedMultimap) → Fillable owners n m
    → (j : ℕ) (r : ListOrderedMultimap) → Filled m owners scores j r → j < n → {k v : ℕ} → k ≡ at owners j → v ≡ at scores j
    → {o : ListOrderedMultimap} → o ≡ with_round r 0 k v → Filled m owners scores (j + 1) o
fills_more owners scores n m g j r f more {k} {v} ek ev e =
    let is = e ∙ ap (λ (x : ℕ). with_round r 0 x v) ek ∙ ap (λ (x : ℕ). with_round r 0 (at owners j) x) ev in
    subst (Filled m owners scores (j + 1)) (sym is) (fill_more owners scores n m g j r f more)
