-- A map with no place in use, and the step of `clear`. Assumes nothing.
use Prim.Native.Nat.{ℕ, zero, suc, ◌<◌}
use mathlib.Core.Path.{◌≡◌, refl, ap, sym, ◌∙◌}
use mathlib.Core.Bool.{true, false}
use mathlib.Core.List.{List, []}
use native.Mathlib.Omega.{arith}
use lib.ListN.{length, get_or, set, length-set, length-replicate}
use lib.Seq.{get_or-set_same}
use Rattle.steps.specs.State.{State, Limits, empty, limit}
use Rattle.steps.specs.Call.{Answer, clear, refused, done}
use Rattle.steps.specs.Step.{step, checks, act, say, too_high}
use Rattle.steps.specs.Proper.{Allowed}
use Rattle.steps.specs.Trace.{Does}
use Rattle.steps.proofs.Doing.{does_change}
use Rattle.steps.proofs.Limits.{made_refused, made_done, may_have}
use Rattle.steps.proofs.Posters.{none_taken}
use Rattle.links.specs.Route.{tally}
use Rattle.links.specs.Places.{order}
use Rattle.links.specs.Links.{record_of}
use Rattle.links.proofs.Bare.{bare_order}
use Rattle.links.proofs.Lists.{length_order}
use Rattle.index.proofs.Table.{empty_holds}
use Rattle.multimap.specs.declared.ListOrderedMultimap.{ListOrderedMultimap}
use Rattle.multimap.specs.Sized.{Sized}
use Rattle.multimap.specs.Map.{at, rounds_of, members_of, limits_of, state_of}
use Rattle.multimap.specs.Making.{Makes}
use Rattle.multimap.specs.WellLinked.{WellLinked, Counted, linked}
use Rattle.multimap.proofs.Copies.{get_d_in}
use Rattle.multimap.proofs.Empty.{empty_map}
use Rattle.packing.specs.Cleared.{cleared, zeros}

-- no pair and no member, this T and these limits
abbrev nothing : List ℕ → Limits → State
nothing t l = record { pairs = []; members = []; taken = t; limits = l }

-- an end cell that leads to itself
end_cell : (t : List ℕ) (n i : ℕ) → length t ≡ n → i < n → at (set t i i) i ≡ i
end_cell t n i e h = get_or-set_same t i i 0 (rw e h)

module _ (a : ListOrderedMultimap) where
  cleared_sized : Sized a → Sized (cleared a)
  cleared_sized s =
      record {
        keys = s.keys;
        lengths = s.lengths;
        next_key = simp length-set s.next_key;
        previous_key = simp length-set s.previous_key;
        values = s.values;
        key_index = s.key_index;
        next_value = simp length-set s.next_value;
        previous_value = simp length-set s.previous_value;
        next_index = s.next_index;
        previous_index = s.previous_index;
        index = length-replicate {A = ℕ} 512 65535;
        taken = s.taken;
      }

  -- whatever the arrays held, they hold a map with no pair and no member
  pub cleared_map : Sized a → Allowed (limits_of a) → Counted a
      → WellLinked (cleared a) × (state_of (cleared a) ≡ nothing a.taken (limits_of a))
  cleared_map s l t =
      empty_map (cleared a) refl refl a.taken refl refl refl
      (end_cell a.next_value 1025 1024 s.next_value (omega arith))
      (end_cell a.previous_value 1025 1024 s.previous_value (omega arith))
      (end_cell a.next_key 257 256 s.next_key (omega arith)) (end_cell a.previous_key 257 256 s.previous_key (omega arith))
      (cleared_sized s) (empty_holds a.keys) refl l t

step_clear : (s : State) → step clear s ≡ (say done, nothing s.taken s.limits)
unfolding step checks act
step_clear s = refl

module _ (a : ListOrderedMultimap) (g : WellLinked a) where
  pub clears : Does linked clear a (say done) (cleared a)
  clears =
      let e = cleared_map a g.sized g.limited.allowed g.taken in
      does_change linked clear a (say done) (nothing a.taken (limits_of a)) (cleared a) refl refl (step_clear (state_of a)) e.1 e.0

  -- a map that holds no round has no member either: it stays as it is
  module _ (none : a.rounds.len ≡ 0) where
    no_rounds : order (rounds_of a) ≡ []
    no_rounds = bare_order (rounds_of a) none

    no_members : order (members_of a) ≡ []
    no_members = bare_order (members_of a) (go a.members.len refl)
      where
        go : (n : ℕ) → a.members.len ≡ n → a.members.len ≡ 0
        go zero e = e
        go (suc n) e =
            let x : ℕ = get_or (order (members_of a)) 0 0 in
            let i : 0 < tally x (order (members_of a)) = get_d_in (order (members_of a)) 0 0 (omega (arith, length_order (members_of a), e)) in
            absurd (omega (arith, g.some x i, ap (λ (l : List ℕ). length (record_of (at a.key_index) x l)) no_rounds))

    pub stays : Does linked clear a (say done) a
    stays =
        does_change linked clear a (say done) (nothing a.taken (limits_of a)) a refl refl (step_clear (state_of a)) (rw (no_rounds, no_members)) g

-- a new map
module _ (l : Limits) where
  abbrev new_map : ListOrderedMultimap
  new_map = cleared (zeros l)

  new_is : Allowed l → WellLinked new_map × (state_of new_map ≡ empty l)
  new_is h =
      cleared_map (zeros l)
      record {
        keys = length-replicate {A = ℕ} 256 0;
        lengths = length-replicate {A = ℕ} 256 0;
        next_key = length-replicate {A = ℕ} 257 0;
        previous_key = length-replicate {A = ℕ} 257 0;
        values = length-replicate {A = ℕ} 1024 0;
        key_index = length-replicate {A = ℕ} 1024 0;
        next_value = length-replicate {A = ℕ} 1025 0;
        previous_value = length-replicate {A = ℕ} 1025 0;
        next_index = length-replicate {A = ℕ} 1280 0;
        previous_index = length-replicate {A = ℕ} 1280 0;
        index = length-replicate {A = ℕ} 512 65535;
        taken = length-replicate {A = ℕ} 16 0;
      }
      h (none_taken 16)

  pub makes_new : {m : ListOrderedMultimap} → m ≡ new_map → too_high l ≡ false → Makes l done m
  makes_new e h =
      let n = new_is (may_have l refl h) in
      rw e (record { answer = sym (ap (λ (r : Answer × State). r.0) (made_done l h)); state = n.1 ∙ sym (ap (λ (r : Answer × State). r.1) (made_done l h)); linked = n.0 })

-- one that may not be made
pub makes_none : (l : Limits) {m : ListOrderedMultimap} → m ≡ cleared (zeros (limit 0 0)) → too_high l ≡ true → Makes l (refused 15) m
makes_none l e h =
    let n = new_is (limit 0 0) (may_have (limit 0 0) refl refl) in
    rw e (record { answer = sym (ap (λ (r : Answer × State). r.0) (made_refused l h)); state = n.1 ∙ sym (ap (λ (r : Answer × State). r.1) (made_refused l h)); linked = n.0 })
