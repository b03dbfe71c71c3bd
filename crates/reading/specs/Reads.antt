-- What a call that only reads does, of every map that has the arrays which it reads.
use Rattle.std.specs.Prelude.{ℕ, ◌≡◌, List}
use Rattle.steps.specs.Call as C
use Rattle.steps.specs.Call.{Call, Answer, Outcome, lend}
use Rattle.multimap.specs.declared.ListOrderedMultimap.{ListOrderedMultimap}
use Rattle.multimap.specs.WellLinked.{Calls, CallsTold}

-- α has the arrays of m that the call reads
abbrev pub Seen : Call → ListOrderedMultimap → ListOrderedMultimap → Type 0
Seen (C.get k) m α = (m.keys ≡ α.keys) × (m.values ≡ α.values) × (m.next_index ≡ α.next_index) × (m.index ≡ α.index)
Seen (C.get_all k out) m α =
    (m.keys ≡ α.keys) × (m.lengths ≡ α.lengths) × (m.values ≡ α.values) × (m.next_index ≡ α.next_index) × (m.index ≡ α.index)
Seen (C.entry k) m α = (m.keys ≡ α.keys) × (m.lengths ≡ α.lengths) × (m.index ≡ α.index)
Seen (C.entry_len k) m α = (m.keys ≡ α.keys) × (m.lengths ≡ α.lengths) × (m.index ≡ α.index)
Seen (C.contains_key k) m α = (m.keys ≡ α.keys) × (m.index ≡ α.index)
Seen (C.keys out) m α = (m.keys ≡ α.keys) × (m.next_key ≡ α.next_key) × (m.members ≡ α.members)
Seen C.keys_len m α = m.members ≡ α.members
Seen C.values_len m α = m.rounds ≡ α.rounds
Seen (C.iter members rounds) m α =
    (m.keys ≡ α.keys) × (m.values ≡ α.values) × (m.key_index ≡ α.key_index) × (m.next_value ≡ α.next_value) × (m.rounds ≡ α.rounds)
Seen (C.taken out) m α = m.taken ≡ α.taken
Seen c m α = m ≡ α

-- of every well-linked map that has them: the step's answer and slices, and the map is as it was
abbrev pub Reads : Call → Outcome → ListOrderedMultimap → Type 0
Reads c o m = (α : ListOrderedMultimap) → Seen c m α → Calls c α o α

-- the same, with what the slices hold, and the answer as four numbers
abbrev pub ReadsTold : Call → ListOrderedMultimap → (out out2 numbers : List ℕ) → Type 0
ReadsTold c m out out2 numbers = (α : ListOrderedMultimap) → Seen c m α → CallsTold c α α out out2 numbers

-- the answer of `iter`, and its two slices
abbrev pub pairs_written : Answer → List ℕ → List ℕ → Outcome
pairs_written a members rounds = record { answer = a; slices = lend members rounds }
