-- Every list of calls is what some slices hold: it can be written into slices, and is read again as it was, given room for the answers.
-- Assumes nothing.
use mathlib.Core.Path.{◌≡◌, refl, ap, ap₂, sym, ◌∙◌}
use mathlib.Core.Bool.{true}
use mathlib.Core.List.{List, [], ◌∷◌, ◌++◌}
use Prim.Native.Nat.{ℕ, ◌*◌, ◌-◌, ◌≤◌}
use native.Mathlib.Omega.{arith}
use lib.ListN.{length, take, drop, length-append}
use lib.Seq.{take_at, drop_at}
use borrow.Author.Tests.{le-leb}
use Rattle.steps.specs.State.{State, Limits, empty}
use Rattle.steps.specs.Step.{after, make_of}
use Rattle.steps.proofs.Limits.{makes_new}
use Rattle.multimap.specs.Map.{state_of}
use Rattle.steps.specs.Call as C
use Rattle.steps.proofs.Views.{view_back}
use Rattle.steps.specs.Call.{Call, view}
use Rattle.multimap.specs.declared.ListOrderedMultimap.{ListOrderedMultimap}
use Rattle.replay.specs.Tape.{known, fits, decode}
use Rattle.replay.specs.Encode.{numbers, lent_outs, lent_outs2, all_marks}
use Rattle.replay.specs.Played.{Played}
use Rattle.replay.proofs.Tapes.{decode_call}

is_known : (c : Call) → known (view c).number (length (view c).out) (length (view c).out2) (length (view c).marks) ≡ true
is_known (C.append p k v) = refl
is_known (C.insert p k v) = refl
is_known (C.insert_all p k v out) = refl
is_known (C.remove k) = refl
is_known (C.remove_all k out) = refl
is_known (C.entry k) = refl
is_known (C.occupied_append p k v) = refl
is_known (C.occupied_insert p k v) = refl
is_known (C.occupied_remove_entry k) = refl
is_known (C.vacant_insert p k v) = refl
is_known C.pop_front = refl
is_known C.pop_back = refl
is_known (C.retain marks) = refl
is_known (C.pack_to a b) = refl
is_known C.clear = refl
is_known (C.get k) = refl
is_known (C.get_all k out) = refl
is_known (C.entry_len k) = refl
is_known (C.contains_key k) = refl
is_known (C.keys out) = refl
is_known C.keys_len = refl
is_known C.values_len = refl
is_known (C.iter ks vs) = refl
is_known (C.taken out) = refl

fits_again : (a n n2 n3 room room2 room3 space : ℕ) → known a n n2 n3 ≡ true → n ≤ room → n2 ≤ room2 → n3 ≤ room3 → 4 ≤ space → fits a n n2 n3 room room2 room3 space ≡ true
unfolding fits
fits_again a n n2 n3 room room2 room3 space e h h2 h3 h4 = rw (e, le-leb n room h, le-leb n2 room2 h2, le-leb n3 room3 h3, le-leb 4 space h4) refl

front_in : (a b : List ℕ) → length a ≤ length (a ++ b)
front_in a b = omega (arith, length-append a b)

-- a front of a slice, and what is behind it
module _ (a b : List ℕ) where
  first : take (length a) (a ++ b) ≡ a
  first = take_at a b (length a) refl

  behind : drop (length a) (a ++ b) ≡ b
  behind = drop_at a b (length a) refl

pub decode_encode : (cs : List Call) (space : ℕ) → 4 * length cs ≤ space → decode (numbers cs) (lent_outs cs) (lent_outs2 cs) (all_marks cs) space ≡ cs
unfolding decode
decode_encode [] space h = refl
decode_encode (c ∷ cs) space h =
    decode_call (view c).number (view c).poster (view c).k (view c).v (length (view c).out) (length (view c).out2) (length (view c).marks) (numbers cs) (lent_outs (c ∷ cs)) (lent_outs2 (c ∷ cs)) (all_marks (c ∷ cs)) space
    (fits_again (view c).number (length (view c).out) (length (view c).out2) (length (view c).marks) (length (lent_outs (c ∷ cs))) (length (lent_outs2 (c ∷ cs))) (length (all_marks (c ∷ cs))) space
    (is_known c) (front_in (view c).out (lent_outs cs)) (front_in (view c).out2 (lent_outs2 cs)) (front_in (view c).marks (all_marks cs)) (omega arith))
    ∙ rw (first (view c).out (lent_outs cs), first (view c).out2 (lent_outs2 cs), first (view c).marks (all_marks cs), behind (view c).out (lent_outs cs), behind (view c).out2 (lent_outs2 cs), behind (view c).marks (all_marks cs))
    (ap₂ (λ (x : Call) (xs : List Call). x ∷ xs) (view_back c) (decode_encode cs (space - 4) (omega arith)))

-- so replay makes all calls of the list, on the new map with the limits l, and its claim is one about the list itself
pub all_made : (l : Limits) (cs : List Call) (ans outs' outs2' ans' : List ℕ) (m' : ListOrderedMultimap) (n : ℕ) → 4 * length cs ≤ length ans
    → Played l (numbers cs) (lent_outs cs) (lent_outs2 cs) (all_marks cs) ans outs' outs2' ans' m' n → (n ≡ length cs) × (state_of m' ≡ after cs (make_of l).1)
all_made l cs ans outs' outs2' ans' m' n h p = (
  p.number ∙ ap length (decode_encode cs (length ans) h),
  p.demand_3.obeys.state
      ∙ ap₂ (λ (x : List Call) (s : State). after x (empty s.limits)) (decode_encode cs (length ans) h) p.start_new
      ∙ ap (λ (s : State). after cs s) (sym (makes_new l).state),
)
