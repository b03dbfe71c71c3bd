-- Rounds leave by marks, one after the other along the list of rounds: what the stores leave, whatever the arrays hold.
use Rattle.std.specs.Prelude.{ℕ, ◌≡◌, ◌≢◌, Bool, List, [], ◌∷◌}
use Rattle.links.specs.Stores.{at}
use Rattle.multimap.specs.declared.ListOrderedMultimap.{ListOrderedMultimap}
use Rattle.multimap.specs.Changes.{Left}

-- the round in the place x leaves where its mark is 0
pub record Turned (mark x : ℕ) (a r : ListOrderedMultimap) : Type 0 where
  pub out : mark ≡ 0 → (gone : Bool) × Left a x gone r
  pub stays : mark ≢ 0 → r ≡ a

-- so for each mark, from the place x on by next, which is read before the round leaves
abbrev pub Thinned : List ℕ → ℕ → ListOrderedMultimap → ListOrderedMultimap → Type 0
Thinned [] x a r = r ≡ a
Thinned (m ∷ ms) x a r = (o : ListOrderedMultimap) × Turned m x a o × Thinned ms (at a.next_value x) o r
