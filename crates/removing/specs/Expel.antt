-- Rounds of a record leave one after the other: what the stores leave, whatever the arrays hold.
use Rattle.std.specs.Prelude.{ℕ, zero, suc, ◌≡◌, Bool}
use Rattle.links.specs.Stores.{at}
use Rattle.multimap.specs.declared.ListOrderedMultimap.{ListOrderedMultimap}
use Rattle.multimap.specs.Changes.{base_of, Left}

-- n rounds leave, from the place q on along its chain; each one's next is read before it leaves
abbrev pub Expelled : ℕ → ℕ → ListOrderedMultimap → ListOrderedMultimap → Type 0
Expelled zero q a r = r ≡ a
Expelled (suc n) q a r = (o : ListOrderedMultimap) × (gone : Bool) × Left a q gone o × Expelled n (at a.next_index q) o r

-- as many as the member in the place `key` has, from its head on
abbrev pub RecordOut : ListOrderedMultimap → ℕ → ListOrderedMultimap → Type 0
RecordOut a key r = Expelled (at a.lengths key) (at a.next_index (base_of key)) a r
