-- The arrays have the lengths that the record's type says. Assumes nothing.
use mathlib.Core.List.{[], ◌∷◌}
use borrow.Author.Rules.{rules}
use denote.Laws.{Is}
use denote.Struct.Declared.{row}
use denote.Struct.Laws.{val}
use Rattle.multimap.specs.Sized.{Sized}
use Rattle.multimap.specs.declared.ListOrderedMultimap.{ListOrderedMultimap}
use Rattle.multimap.specs.contracts.ListOrderedMultimap as types
use Rattle.multimap.proofs.ListOrderedMultimap.TheLaws as laws

-- the arrays have the lengths that the type says
abbrev pub Whole : ListOrderedMultimap → Type 0
Whole m = Is (row types.the_type) m (val types.the_type laws.the_laws m ∷ [])

pub sized : (m : ListOrderedMultimap) → Whole m → Sized m
sized m w =
    record {
      keys = search rules;
      lengths = search rules;
      next_key = search rules;
      previous_key = search rules;
      values = search rules;
      key_index = search rules;
      next_value = search rules;
      previous_value = search rules;
      next_index = search rules;
      previous_index = search rules;
      index = search rules;
      taken = search rules;
    }
