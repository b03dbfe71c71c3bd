-- A record that makes way for one round: what the stores leave, whatever the arrays hold.
use Rattle.std.specs.Prelude.{ℕ}
use Rattle.links.specs.Stores.{at}
use Rattle.multimap.specs.declared.ListOrderedMultimap.{ListOrderedMultimap}
use Rattle.multimap.specs.Changes.{base_of, with_round, strikes}

-- the rounds of the member place `key` are struck, as many as its length says, from its head on
abbrev pub without_record : ListOrderedMultimap → ℕ → ListOrderedMultimap
without_record a key = strikes (at a.lengths key) (at a.next_index (base_of key)) a

-- and v is its only round, counted for the poster
abbrev pub with_only : ListOrderedMultimap → ℕ → ℕ → ℕ → ListOrderedMultimap
with_only a poster key v = with_round (without_record a key) poster key v
