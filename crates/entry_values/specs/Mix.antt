-- A mix of calls of `next` and `next_back`, a mark for each in order: false for the front, true for the back.
use Rattle.std.specs.Prelude.{ℕ, ◌-◌, min, ◌≡◌, Bool, true, false, not, List, [], ◌∷◌, ◌++◌, map, eqb, length, replicate, Option}
use Rattle.std.specs.List.{flat_map}
use Rattle.std.proofs.lemmas.List.Edits.{sets}
use Rattle.steps.specs.Call.{Answer, none, round}
use Rattle.entry_values.specs.declared.EntryValues.{EntryValues}
use Rattle.entry_values.specs.Reader.{answer, rest, or_none, remaining, Stepped}

-- the calls' answers where l is not given yet, and what is not given after the last
abbrev pub answers : List Bool → List ℕ → List Answer
answers [] l = []
answers (b ∷ bs) l = answer b l ∷ answers bs (rest b l)

abbrev pub after : List Bool → List ℕ → List ℕ
after [] l = l
after (b ∷ bs) l = after bs (rest b l)

-- the rounds among answers
abbrev pub round_of : Answer → List ℕ
round_of (round v) = v ∷ []
round_of _ = []

abbrev pub rounds : List Answer → List ℕ
rounds rs = flat_map round_of rs

-- the rounds that a mix gives, in the order of its calls
abbrev pub given : List Bool → List ℕ → List ℕ
given bs l = rounds (answers bs l)

-- bytes as marks: 0 is the front, any other the back
abbrev pub mark_of : ℕ → Bool
mark_of b = not (eqb b 0)

abbrev pub marks : List ℕ → List Bool
marks bs = map mark_of bs

-- the outcome of a mix where l is not given yet: the number of rounds given, and an out slice with these from its front on; a round
-- that it has no place for is not written
pub record Mixed (bs : List Bool) (l out : List ℕ) (r : ℕ) (out' : List ℕ) : Type 0 where
  pub number : r ≡ length (given bs l)
  pub written : out' ≡ sets out 0 (given bs l)

-- a run of calls on one reader, each as the contract of `next` or `next_back` has it: marks, answers, and the reader before and after
pub data Runs : EntryValues → List Bool → List Answer → EntryValues → Type 0 where
  stop : {e : EntryValues} → Runs e [] [] e
  call : {b : Bool} {e e' e'' : EntryValues} {r : Option ℕ} {bs : List Bool} {rs : List Answer}
      → Stepped b e r e' → Runs e' bs rs e'' → Runs e (b ∷ bs) (or_none r ∷ rs) e''

-- the rounds that the calls at the front gave, the first given first; and those that the calls at the back gave, the last given first
abbrev pub fronts : List Bool → List Answer → List ℕ
fronts (false ∷ bs) (r ∷ rs) = round_of r ++ fronts bs rs
fronts (true ∷ bs) (r ∷ rs) = fronts bs rs
fronts _ _ = []

abbrev pub backs : List Bool → List Answer → List ℕ
backs (true ∷ bs) (r ∷ rs) = backs bs rs ++ round_of r
backs (false ∷ bs) (r ∷ rs) = backs bs rs
backs _ _ = []

-- what a run gives: every round once, from its end, and then none for ever
pub record Gives (e : EntryValues) (bs : List Bool) (rs : List Answer) (e' : EntryValues) : Type 0 where
  -- those given at the front, those not given yet and those given at the back are, in this order, those that the reader had
  pub once : fronts bs rs ++ (remaining e' ++ backs bs rs) ≡ remaining e
  -- one less for each call, until there is none
  pub fewer : length (remaining e') ≡ length (remaining e) - length bs
  -- a round for each call, up to as many as the reader had
  pub number : length (rounds rs) ≡ min (length bs) (length (remaining e))
  -- the rounds come first, and each call after them answers none
  pub then_none : rs ≡ map round (rounds rs) ++ replicate (length bs - length (remaining e)) none
