-- A turn of `empty`, and what all turns make of a record. Assumes nothing.
use Prim.Native.Nat.{ℕ, zero, suc, ◌+◌, ◌-◌, ◌<◌}
use mathlib.Core.Path.{◌≡◌, refl, ap}
use mathlib.Core.Bool.{true}
use mathlib.Core.List.{[]}
use native.Mathlib.Omega.{arith}
use lib.Dec.{eqb}
use lib.ListN.{get_or}
use Rattle.links.specs.Stores.{at}
use Rattle.multimap.specs.declared.ListOrderedMultimap.{ListOrderedMultimap}
use Rattle.multimap.specs.Changes.{without_round, strikes}
use Rattle.multimap.specs.Strike.{Stretch, Struck, MemberPlace, Emptied, chosen, visited}
use Rattle.multimap.proofs.Strikes.{Turned, turned_none, turned_all, turned_struck}
use Rattle.multimap.proofs.Emptying.{record_stretch, emptied, its_member}
use Rattle.multimap.proofs.Additions.{base_is}
use Rattle.inserting.specs.Records.{without_record}

-- one turn of n - i
pub struck_one : (n i q : ℕ) (a : ListOrderedMultimap) → i < n → strikes (n - i) q a ≡ strikes (n - (i + 1)) (at a.next_index q) (without_round a q)
struck_one n i q a h = ap (λ (k : ℕ). strikes k q a) (let z : n - i ≡ suc (n - (i + 1)) = omega arith in z)

-- ---- all rounds of a member are struck

-- a mark that is missing is 0
no_mark : (i : ℕ) → eqb (get_or [] i 0) 0 ≡ true
no_mark zero = refl
no_mark (suc i) = refl

struck_all : (m : ListOrderedMultimap) (s n : ℕ) (h : Stretch true m s n) (f i q : ℕ) (o : ListOrderedMultimap)
    → Turned true m s n h [] i q o → i + f ≡ n → Struck m (chosen [] (visited true m s n)) (strikes f q o)
struck_all m s n h zero i q o t e = turned_all true m s n h [] i q o t (omega arith)
struck_all m s n h (suc f) i q o t e =
    struck_all m s n h f (i + 1) (at o.next_index q) (without_round o q)
    (turned_struck true m s n h [] i q o t (omega arith) (at o.next_index q) refl (no_mark i)) (omega arith)

pub all_struck : (m : ListOrderedMultimap) (key : ℕ) → MemberPlace m key → Emptied m key (without_record m key)
all_struck m key h =
    rw (base_is key (its_member m key h).inside)
    (let s = at m.next_index (1024 + key) in
    let n = at m.lengths key in
    let r = record_stretch m key h in
    emptied m key h (strikes n s m) (struck_all m s n r n 0 s m (turned_none true m s n r [] h.linked.sized) (omega arith)))
