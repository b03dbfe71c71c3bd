-- What the search for a number, and its entry, say of a well-linked map α that has the arrays which are read. Assumes nothing.
use Prim.Native.Nat.{ℕ}
use mathlib.Core.Path.{◌≡◌, refl, sym, ap, ◌∙◌}
use mathlib.Core.List.{List, map}
use mathlib.Core.Bool.{true}
use native.Mathlib.Omega.{arith}
use borrow.Author.Tests.{le-ltb}
use lib.ListN.{length}
use Rattle.steps.specs.State as St
use Rattle.steps.specs.Call.{Answer, Outcome, round, count, occupied, vacant}
use Rattle.steps.specs.Step.{first, write, entry_of}
use Rattle.index.specs.declared.Found.{Found}
use Rattle.index.specs.declared.Found.TheVariants.{At, Absent}
use Rattle.index.specs.Search.{search as searched}
use Rattle.multimap.specs.declared.ListOrderedMultimap.{ListOrderedMultimap}
use Rattle.multimap.specs.Changes.{base_of}
use Rattle.multimap.specs.Map.{at, pairs, state_of}
use Rattle.multimap.specs.WellLinked.{WellLinked}
use Rattle.multimap.proofs.Additions.{base_is}
use Rattle.multimap.proofs.Records.{NoMember, Member, found, not_found, first_round}
use Rattle.copying.specs.Slices.{along, writing}
use Rattle.reading.specs.Entry.{entry_by, entry_in}

-- the search, in arrays that are the map's
module _ (m α : ListOrderedMultimap) (g : WellLinked α) (k : ℕ) (same : (m.keys ≡ α.keys) × (m.index ≡ α.index)) {r : Found} (e : r ≡ searched m.index m.keys k) where
  pub nobody : {p n : ℕ} → r ≡ Absent p n → NoMember α k
  nobody f = not_found α g k _ _ (rw (same.0, same.1) at (sym e ∙ f))

  pub somebody : {p n x : ℕ} → r ≡ At p x n → Member α k x
  somebody f = found α g k _ _ _ (rw (same.0, same.1) at (sym e ∙ f))

-- the member's first round, read at its head
pub first_read : (m α : ListOrderedMultimap) → WellLinked α → (k x : ℕ) → Member α k x → m.values ≡ α.values → m.next_index ≡ α.next_index
    → {head v : ℕ} → head ≡ at m.next_index (base_of x) → v ≡ at m.values head → round v ≡ first (St.rounds k (pairs α))
first_read m α g k x h p q e f = ap round (f ∙ rw (p, e, q, base_is x h.inside)) ∙ sym (first_round α g k x h)

-- its record, copied from the head on as far as its length says
pub rounds_written : (m α : ListOrderedMultimap) (k x : ℕ) → Member α k x → m.values ≡ α.values → m.next_index ≡ α.next_index → m.lengths ≡ α.lengths
    → {head n : ℕ} → head ≡ at m.next_index (base_of x) → n ≡ at m.lengths x
    → {o : Outcome} (out : List ℕ) → o ≡ writing (along (at m.values) (at m.next_index) head n) out → o ≡ writing (St.rounds k (pairs α)) out
rounds_written m α k x h p q r {head} {n} e f out w =
    let its : along (at m.values) (at m.next_index) head n ≡ St.rounds k (pairs α) =
    rw (e, f, p, q, r, base_is x h.inside) (ap (map (at α.values)) h.walked ∙ sym h.rounds) in
    w ∙ ap (λ (l : List ℕ). writing l out) its

-- of a number that is no member none is written
pub nothing_written : (α : ListOrderedMultimap) (k : ℕ) → NoMember α k → (out : List ℕ) → write (count 0) out ≡ writing (St.rounds k (pairs α)) out
nothing_written α k h out = rw (h.rounds, le-ltb (length out) 0 (omega arith))

-- what an entry says, its lengths read in any array: of a member what stands there, of any other number that it is none
pub data Entered (α : ListOrderedMultimap) (lengths : List ℕ) (k : ℕ) : Answer → Type 0 where
  occupied_by : (x : ℕ) → Member α k x → Entered α lengths k (occupied (at lengths x))
  vacant_yet : NoMember α k → Entered α lengths k (vacant k)

pub entered : (α : ListOrderedMultimap) → WellLinked α → (lengths : List ℕ) (k : ℕ) → Entered α lengths k (entry_by lengths k (searched α.index α.keys k))
entered α g lengths k = go (searched α.index α.keys k) refl
  where
    go : (r : Found) → searched α.index α.keys k ≡ r → Entered α lengths k (entry_by lengths k r)
    go (At p x n) e = occupied_by x (found α g k p n x e)
    go (Absent p n) e = vacant_yet (not_found α g k p n e)

-- in the map's own it is the step's
pub entry_is : (α : ListOrderedMultimap) → WellLinked α → (k : ℕ) → {a : Answer} → a ≡ entry_in α k → a ≡ entry_of (St.present k (state_of α)) k (state_of α)
entry_is α g k e = e ∙ go (entered α g α.lengths k)
  where
    go : {a : Answer} → Entered α α.lengths k a → a ≡ entry_of (St.present k (state_of α)) k (state_of α)
    go (occupied_by x h) = rw h.present (ap occupied (sym h.many))
    go (vacant_yet h) = rw h.absent

-- what is so of each of the two entries of a map m that has the same index and member numbers, and lengths of its own
module _ (m α : ListOrderedMultimap) (g : WellLinked α) (k : ℕ) (same : (m.keys ≡ α.keys) × (m.index ≡ α.index)) where
  seen : {a : Answer} → a ≡ entry_in m k → a ≡ entry_by m.lengths k (searched α.index α.keys k)
  seen e = e ∙ rw (same.0, same.1)

  pub is_occupied : {n : ℕ} → occupied n ≡ entry_in m k → (true ≡ St.present k (state_of α)) × (m.lengths ≡ α.lengths → n ≡ length (St.rounds k (pairs α)))
  is_occupied {n} e = go (entered α g m.lengths k) (seen e)
    where
      go : {a : Answer} → Entered α m.lengths k a → occupied n ≡ a
          → (true ≡ St.present k (state_of α)) × (m.lengths ≡ α.lengths → n ≡ length (St.rounds k (pairs α)))
      go (occupied_by x h) e = (sym h.present, λ l. cc (l, h.many))
      go (vacant_yet h) e = absurd (let z : ◌≡◌ {A = ℕ} 0 1 = cc in omega arith)

  pub is_vacant : {n : ℕ} → vacant n ≡ entry_in m k → NoMember α k
  is_vacant {n} e = go (entered α g m.lengths k) (seen e)
    where
      go : {a : Answer} → Entered α m.lengths k a → vacant n ≡ a → NoMember α k
      go (occupied_by x h) e = absurd (let z : ◌≡◌ {A = ℕ} 0 1 = cc in omega arith)
      go (vacant_yet h) e = h
