-- A map with no place in use.
use Rattle.std.specs.Prelude.{replicate, set}
use Rattle.steps.specs.State.{Limits}
use Rattle.links.specs.Stores.{unused}
use Rattle.index.specs.Table.{empty_index}
use Rattle.multimap.specs.declared.ListOrderedMultimap.{ListOrderedMultimap}

-- The end cells lead to themselves, no place is in use or ever was, and the index is as it begins. The limits stay, and what else there is.
abbrev pub cleared : ListOrderedMultimap → ListOrderedMultimap
cleared a =
    record a {
      next_key = set a.next_key 256 256;
      previous_key = set a.previous_key 256 256;
      next_value = set a.next_value 1024 1024;
      previous_value = set a.previous_value 1024 1024;
      index = empty_index;
      members = unused a.members.limit;
      rounds = unused a.rounds.limit;
    }

-- All arrays hold zeros, with these limits.
abbrev pub zeros : Limits → ListOrderedMultimap
zeros l =
    record {
      keys = replicate 256 0;
      lengths = replicate 256 0;
      next_key = replicate 257 0;
      previous_key = replicate 257 0;
      values = replicate 1024 0;
      key_index = replicate 1024 0;
      next_value = replicate 1025 0;
      previous_value = replicate 1025 0;
      next_index = replicate 1280 0;
      previous_index = replicate 1280 0;
      index = empty_index;
      members = unused l.members;
      rounds = unused l.rounds;
      taken = replicate 16 0;
    }
