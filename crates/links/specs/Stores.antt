-- What the functions on lists of places leave in the arrays that they are lent, whatever these hold: a store past the end changes nothing.
use Rattle.std.specs.Prelude.{ℕ, ◌+◌, ◌-◌, min, List, eqb, get_or, set}
use Rattle.links.specs.Route.{pick}
use Rattle.links.specs.declared.Counts.{Counts}

-- one more, as far as 16 bits go
abbrev pub up : ℕ → ℕ
up n = min (n + 1) 65535

-- the counts of a list with no place in use, and its limit
abbrev pub unused : ℕ → Counts
unused limit = record { len = 0; fresh = 0; free = 0; limit = limit }

-- the counts once x is free
abbrev pub freeing_in : {P : Type 0} → (P → ℕ) → Counts → P → Counts
freeing_in number cs x = record { len = cs.len - 1; fresh = cs.fresh; free = number x; limit = cs.limit }

-- the place to be taken next, by the counts: a fresh one where none is free
abbrev pub spot_in : {P : Type 0} → (ℕ → P) → Counts → P
spot_in of cs = pick (eqb cs.len cs.fresh) (of cs.fresh) (of cs.free)

-- of places with a number each
module _ {P : Type 0} (number : P → ℕ) (of : ℕ → P) where
  -- what stands at q, the place 0 past the end
  abbrev pub at_in : List P → P → P
  at_in t q = get_or t (number q) (of 0)

  -- the place x goes to the back of the list that begins and ends at root: next, and previous
  abbrev pub next_back_in : List P → List P → P → P → List P
  next_back_in n p root x = set (set n (number (at_in p root)) x) (number x) root

  abbrev pub previous_back_in : List P → P → P → List P
  previous_back_in p root x = set (set p (number x) (at_in p root)) (number root) x

  -- x is taken out: next, and previous
  abbrev pub next_out_in : List P → List P → P → List P
  next_out_in n p x = set n (number (at_in p x)) (at_in n x)

  abbrev pub previous_out_in : List P → List P → P → List P
  previous_out_in n p x = set p (number (at_in n x)) (at_in p x)

  -- the counts once a place is taken; the list's limit stays
  abbrev pub taking_in : List P → Counts → Counts
  taking_in n cs =
      record {
        len = up cs.len;
        fresh = pick (eqb cs.len cs.fresh) (up cs.fresh) cs.fresh;
        free = pick (eqb cs.len cs.fresh) cs.free (number (at_in n (spot_in of cs)));
        limit = cs.limit;
      }

-- the same of places that are numbers, as contracts see them
abbrev self : ℕ → ℕ
self n = n

abbrev pub at : List ℕ → ℕ → ℕ
at = at_in self self

abbrev pub next_back : List ℕ → List ℕ → ℕ → ℕ → List ℕ
next_back = next_back_in self self

abbrev pub previous_back : List ℕ → ℕ → ℕ → List ℕ
previous_back = previous_back_in self self

abbrev pub next_out : List ℕ → List ℕ → ℕ → List ℕ
next_out = next_out_in self self

abbrev pub previous_out : List ℕ → List ℕ → ℕ → List ℕ
previous_out = previous_out_in self self

abbrev pub spot : Counts → ℕ
spot = spot_in self

abbrev pub taking : List ℕ → Counts → Counts
taking = taking_in self self

abbrev pub freeing : Counts → ℕ → Counts
freeing = freeing_in self
