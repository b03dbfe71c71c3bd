-- How long a map's arrays are.
use Rattle.std.specs.Prelude.{length, ◌≡◌}
use Rattle.multimap.specs.declared.ListOrderedMultimap.{ListOrderedMultimap}

pub record Sized (m : ListOrderedMultimap) : Type 0 where
  pub keys : length m.keys ≡ 256
  pub lengths : length m.lengths ≡ 256
  pub next_key : length m.next_key ≡ 257
  pub previous_key : length m.previous_key ≡ 257
  pub values : length m.values ≡ 1024
  pub key_index : length m.key_index ≡ 1024
  pub next_value : length m.next_value ≡ 1025
  pub previous_value : length m.previous_value ≡ 1025
  pub next_index : length m.next_index ≡ 1280
  pub previous_index : length m.previous_index ≡ 1280
  pub index : length m.index ≡ 512
  pub taken : length m.taken ≡ 16
