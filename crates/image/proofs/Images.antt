-- What `write_image` leaves of a map m is what the definition says of a well-linked map α that has the arrays which it reads. Assumes nothing.
use Prim.Native.Nat.{ℕ, ◌+◌, ◌*◌, ◌≤◌, ◌<◌}
use mathlib.Core.Path.{◌≡◌, sym, ap, ◌∙◌}
use mathlib.Core.List.{List, map}
use native.Mathlib.Omega.{arith}
use borrow.Author.Tests.{lt-ltb, le-ltb}
use lib.ListN.{length, length-map}
use Rattle.steps.specs.State.{State}
use Rattle.steps.specs.Call.{count, refused}
use Rattle.steps.specs.Step.{over, write}
use Rattle.multimap.specs.declared.ListOrderedMultimap.{ListOrderedMultimap}
use Rattle.multimap.specs.Map.{pairs, state_of}
use Rattle.multimap.specs.WellLinked.{WellLinked}
use Rattle.multimap.proofs.Stores.{pair_keys, pair_values, length_pairs, length_members}
use Rattle.image.specs.Image.{image_of, write_of}
use Rattle.image.specs.Running.{image_in}
use Rattle.image.specs.Answers.{Seen}
use Rattle.image.proofs.Layouts.{length_layout}

-- an image is 8 + 16 × n long
pub length_image : (s : State) → length (image_of s) ≡ 8 + 16 * length s.pairs
unfolding image_of
length_image s =
    length_layout (length s.pairs) (length s.members) (map (λ p. p.key) s.pairs) (map (λ p. p.value) s.pairs)
    (length-map s.pairs (λ p. p.key)) (length-map s.pairs (λ p. p.value))

-- the image at the front
written_whole : (s : State) (out : List ℕ) → length (image_of s) ≤ length out
    → write (count (8 + 16 * length s.pairs)) (over (image_of s) out) ≡ write_of s out
unfolding write_of
written_whole s out h = rw (le-ltb (length out) (length (image_of s)) h)

-- ---- the two answers

module _ (m α : ListOrderedMultimap) (same : Seen m α) (g : WellLinked α) where
  many : length (pairs α) ≡ m.rounds.len
  many = rw same.5 (length_pairs α)

  long : length (image_of (state_of α)) ≡ 8 + 16 * m.rounds.len
  long = omega (arith, length_image (state_of α), many)

  pub write_short : (out : List ℕ) → length out < 8 + 16 * m.rounds.len → write (refused 3) out ≡ write_of (state_of α) out
  unfolding write_of
  write_short out h = rw (lt-ltb (length out) (length (image_of (state_of α))) (omega (arith, long)))

  -- written along the links
  image : image_in m ≡ image_of (state_of α)
  unfolding image_of
  image = rw (same.0, same.1, same.2, same.3, same.4, same.5, pair_keys α, pair_values α, length_members α, length_pairs α)

  pub write_done : (out : List ℕ) {out' : List ℕ} → 8 + 16 * m.rounds.len ≤ length out → out' ≡ over (image_in m) out
      → write (count (8 + 16 * m.rounds.len)) out' ≡ write_of (state_of α) out
  write_done out h s =
      ap (write (count (8 + 16 * m.rounds.len))) (s ∙ ap (λ (l : List ℕ). over l out) image)
      ∙ ap (λ (k : ℕ). write (count (8 + 16 * k)) (over (image_of (state_of α)) out)) (sym many)
      ∙ written_whole (state_of α) out (omega (arith, long))
