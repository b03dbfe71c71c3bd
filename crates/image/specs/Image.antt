-- The image of a map: what is written, and which images are read as which state.
use Rattle.std.specs.Prelude.{ℕ, ◌+◌, ◌*◌, ◌≤◌, ◌≡◌, not, ◌||◌, List, [], ◌∷◌, ◌++◌, map, eqb, ltb, length, drop}
use Rattle.std.proofs.Math.Option.{Option, some}
use Rattle.std.proofs.Math.Option as Opt
use Rattle.steps.specs.State.{State, Limits, Pair}
use Rattle.steps.specs.Marked.{◌∶◌, firsts, start}
use Rattle.steps.specs.Call.{Answer, Outcome, refused, done, count}
use Rattle.steps.specs.Step.{Check, refusal, short, over, write, making, make_of}
use Rattle.steps.specs.Proper.{Allowed}
use Rattle.image.specs.Bytes.{layout, number, numbers}

-- ---- writing

-- n rounds, m members; n members and n rounds
unfoldable pub image_of : State → List ℕ
image_of s = layout (length s.pairs) (length s.members) (map (λ p. p.key) s.pairs) (map (λ p. p.value) s.pairs)

-- the row of the table for writing
abbrev pub writing : State → List ℕ → List Check
writing s out = (short out (image_of s), 3) ∷ []

-- a refusal writes nothing; else the image stands at the front, and what stands past it is kept
abbrev pub written : Option ℕ → State → List ℕ → Outcome
written (some n) s out = write (refused n) out
written Opt.none s out = write (count (8 + 16 * length s.pairs)) (over (image_of s) out)

unfoldable pub write_of : State → List ℕ → Outcome
write_of s out = written (refusal (writing s out)) s out

-- ---- reading

-- n and m
abbrev pub rounds_said : List ℕ → ℕ
rounds_said s = number 4 s

abbrev pub members_said : List ℕ → ℕ
members_said s = number 4 (drop 4 s)

-- a member and a round each
abbrev pub pair_up : List ℕ → List ℕ → List Pair
pair_up [] vs = []
pair_up (k ∷ ks) [] = []
pair_up (k ∷ ks) (v ∷ vs) = k ∶ v ∷ pair_up ks vs

-- the pairs of an image: the second array begins at byte 8 + 8 × n
unfoldable pub pairs_in : List ℕ → List Pair
pairs_in s = pair_up (numbers (rounds_said s) (drop 8 s)) (numbers (rounds_said s) (drop (8 + 8 * rounds_said s) s))

-- the rows of the table for reading into the limits l, in order: first the row for making a map with them
unfoldable pub reading : Limits → List ℕ → List Check
reading l s =
    making l
    ++ ((ltb (length s) 8, 11)
    ∷ (ltb l.rounds (rounds_said s) || ltb l.members (members_said s), 12)
    ∷ (not (eqb (length s) (8 + 16 * rounds_said s)), 13)
    ∷ (not (eqb (members_said s) (length (firsts [] (pairs_in s)))), 14)
    ∷ [])

-- a refused reading gives the new map with these limits; any other the pairs, the members in order of first appearance, and T with all of the
-- pairs the poster 0's
abbrev pub restored : Option ℕ → Limits → List ℕ → Answer × State
restored (some n) l s = (refused n, (make_of l).1)
restored Opt.none l s = (done, start l (pairs_in s))

unfoldable pub read_of : Limits → List ℕ → Answer × State
read_of l s = restored (refusal (reading l s)) l s

-- the images that reading into the limits l accepts
pub record Accepted (l : Limits) (s : List ℕ) : Type 0 where
  pub allowed : Allowed l
  pub enough : 8 ≤ length s
  pub rounds : rounds_said s ≤ l.rounds
  pub members : members_said s ≤ l.members
  pub long : length s ≡ 8 + 16 * rounds_said s
  pub counted : members_said s ≡ length (firsts [] (pairs_in s))
