-- The state of the steps (document 01, "The steps"), and what the steps do to it.
use Rattle.std.specs.Prelude.{Bool, cond, not, List, [], ◌∷◌, ◌++◌, map, ℕ, ◌+◌, min, eqb, leb, length, get_or, set, replicate}
use Rattle.steps.specs.Lists.{filter, any}

-- A pair (member, round).
pub record Pair : Type 0 where
  pub key : ℕ
  pub value : ℕ

-- The limits of a map (document 02, No. 1): as many members and rounds as its club pays for.
pub record Limits : Type 0 where
  pub members : ℕ
  pub rounds : ℕ

abbrev pub limit : ℕ → ℕ → Limits
limit members rounds = record { members = members; rounds = rounds }

pub record State : Type 0 where
  -- P of document 01: the pairs in global order
  pub pairs : List Pair
  -- K: the members in joining order
  pub members : List ℕ
  -- T: the rounds ever taken in, a counter for each poster (document 02, No. 2)
  pub taken : List ℕ
  pub limits : Limits

-- How many posters there are: the numbers from 0 to 15.
abbrev pub posters : ℕ
posters = 16

abbrev pub empty : Limits → State
empty l = record { pairs = []; members = []; taken = replicate posters 0; limits = l }

-- The highest limits that a map may have, and the ceiling of each counter of T.
abbrev pub max_rounds : ℕ
max_rounds = 1024

abbrev pub max_members : ℕ
max_members = 256

abbrev pub max_taken : ℕ
max_taken = 4294967295

abbrev pub highest : Limits
highest = limit max_members max_rounds

-- Is this a pair of k?
abbrev pub of : ℕ → Pair → Bool
of k p = eqb k p.key

-- Has k a pair among these?
abbrev pub has : ℕ → List Pair → Bool
has k ps = any (of k) ps

-- The record of k: the rounds of its pairs, in order.
abbrev pub rounds : ℕ → List Pair → List ℕ
rounds k ps = map (λ p. p.value) (filter (of k) ps)

-- The pairs of the other members.
abbrev pub others : ℕ → List Pair → List Pair
others k ps = filter (λ p. not (of k p)) ps

-- The pairs with mark 1.
abbrev pub kept : List ℕ → List Pair → List Pair
kept [] ps = []
kept (m ∷ ms) [] = []
kept (m ∷ ms) (p ∷ ps) = cond (eqb 1 m) (p ∷ kept ms ps) (kept ms ps)

abbrev pub present : ℕ → State → Bool
present k s = any (eqb k) s.members

abbrev pub absent : ℕ → State → Bool
absent k s = not (present k s)

-- As many rounds are held as the map's limit is.
abbrev pub full : State → Bool
full s = leb s.limits.rounds (length s.pairs)

-- As many members are held as the map's limit is.
abbrev pub crowded : State → Bool
crowded s = leb s.limits.members (length s.members)

-- k leaves K.
abbrev pub leave : ℕ → List ℕ → List ℕ
leave k ks = filter (λ j. not (eqb k j)) ks

-- The same state with other pairs and members: what a step that adds no round changes.
abbrev pub relist : List Pair → List ℕ → State → State
relist ps ks s = record { pairs = ps; members = ks; taken = s.taken; limits = s.limits }

-- One more round by the poster p: p's counter counts it up to its ceiling.
abbrev pub counting : ℕ → List ℕ → List ℕ
counting p t = set t p (min (get_or t p 0 + 1) max_taken)

-- The poster p adds (k, v): the pair goes to the back of P, a new k to the back of K, and T counts it for p.
abbrev pub add : ℕ → ℕ → ℕ → State → State
add p k v s =
    record {
      pairs = s.pairs ++ (record { key = k; value = v } ∷ []);
      members = cond (present k s) s.members (s.members ++ (k ∷ []));
      taken = counting p s.taken;
      limits = s.limits;
    }

-- k's old pairs leave P and the poster p adds (k, v); a present k keeps its place in K.
abbrev pub replace : ℕ → ℕ → ℕ → State → State
replace p k v s = add p k v (relist (others k s.pairs) s.members s)

-- k's pairs leave P, and k leaves K.
abbrev pub remove_member : ℕ → State → State
remove_member k s = relist (others k s.pairs) (leave k s.members) s

-- The pair p has left P, with `rest` remaining; its member leaves K where no pair of it remains.
abbrev pub remove_pair : Pair → List Pair → State → State
remove_pair p rest s = relist rest (cond (has p.key rest) s.members (leave p.key s.members)) s

-- Of P only these pairs are kept; members without a pair leave K.
abbrev pub keep : List Pair → State → State
keep ps s = relist ps (filter (λ k. has k ps) s.members) s
