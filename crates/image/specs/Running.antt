-- What holds before each pair of an image is written.
use Rattle.std.specs.Prelude.{ℕ, ◌+◌, ◌*◌, ◌≡◌, List, map, length, take, drop}
use Rattle.std.proofs.Math.Seq.{slice}
use Rattle.links.specs.Route.{walk}
use Rattle.links.specs.Stores.{at}
use Rattle.multimap.specs.declared.ListOrderedMultimap.{ListOrderedMultimap}
use Rattle.image.specs.Bytes.{layout}

-- n places of rounds, from the first on along the links
abbrev pub places_along : List ℕ → ℕ → List ℕ
places_along next n = walk (at next) (at next 1024) n

-- the image of these n rounds and their members, of which there are m
abbrev pub image_along : (keys values owners next : List ℕ) → (n m : ℕ) → List ℕ
image_along keys values owners next n m = layout n m (map (λ x. at keys (at owners x)) (places_along next n)) (map (at values) (places_along next n))

-- the image of a map, along its links
abbrev pub image_in : ListOrderedMultimap → List ℕ
image_in m = image_along m.keys m.values m.key_index m.next_value m.rounds.len m.members.len

-- before the i-th of n pairs, from 0, is written to `out`: the places that the walk has left, xs, are those of the pairs that are left; where
-- its member and its round go; that what stands before them, the sizes with the first array and then the second array, is as in the finished
-- image; and that what stands past the image is as it was
pub record Running (next image was : List ℕ) (n i : ℕ) (xs : List ℕ) (first second : ℕ) (out : List ℕ) : Type 0 where
  pub some : i + length xs ≡ n
  pub left : xs ≡ drop i (places_along next n)
  pub first_is : first ≡ 8 + 8 * i
  pub second_is : second ≡ 8 + 8 * n + 8 * i
  pub members : take first out ≡ take first image
  pub rounds : slice (8 + 8 * n) second out ≡ slice (8 + 8 * n) second image
  pub past : drop (length image) out ≡ drop (length image) was
  pub long : length out ≡ length was
