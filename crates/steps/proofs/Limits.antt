-- A map's limits (document 02, No. 1): every call keeps them, which may be asked for, and what a limit of 0 does. Assumes nothing.
use mathlib.Core.Path.{◌≡◌, refl, ap, sym, ◌∙◌}
use mathlib.Core.Logic.{◌↔◌}
use mathlib.Core.Bool.{Bool, true, false, ◌||◌, true≢false}
use mathlib.Core.List.{List, [], ◌∷◌, head?, tail, drop_last}
use mathlib.Core.Option.{Option, none, some}
use Prim.Native.Nat.{ℕ}
use native.Mathlib.Omega.{arith}
use lib.Dec.{ltb}
use lib.ListN.{length}
use borrow.Author.Tests.{ltb-false, le-ltb, le-leb}
use Rattle.steps.specs.Lists.{last?}
use Rattle.steps.specs.State.{State, Limits, limit, Pair, empty, max_members, max_rounds}
use Rattle.steps.specs.Call.{Call, Answer, refused, done}
use Rattle.steps.specs.Call as C
use Rattle.steps.specs.Step.{checks, refusal, refusing, pop, act, settle, step, after, too_high, make_of}
use Rattle.steps.specs.Proper.{Allowed, New}
use Rattle.steps.proofs.Checks.{append_full}

pop_limits : (o : Option Pair) (rest : List Pair) (s : State) → (pop o rest s).1.limits ≡ s.limits
pop_limits none rest s = refl
pop_limits (some p) rest s = refl

act_limits : (c : Call) (s : State) → (act c s).1.limits ≡ s.limits
unfolding act
act_limits (C.append p k v) s = refl
act_limits (C.insert p k v) s = refl
act_limits (C.insert_all p k v out) s = refl
act_limits (C.remove k) s = refl
act_limits (C.remove_all k out) s = refl
act_limits (C.entry k) s = refl
act_limits (C.occupied_append p k v) s = refl
act_limits (C.occupied_insert p k v) s = refl
act_limits (C.occupied_remove_entry k) s = refl
act_limits (C.vacant_insert p k v) s = refl
act_limits C.pop_front s = pop_limits (head? s.pairs) (tail s.pairs) s
act_limits C.pop_back s = pop_limits (last? s.pairs) (drop_last s.pairs) s
act_limits (C.retain ms) s = refl
act_limits (C.pack_to m n) s = refl
act_limits C.clear s = refl
act_limits (C.get k) s = refl
act_limits (C.get_all k out) s = refl
act_limits (C.entry_len k) s = refl
act_limits (C.contains_key k) s = refl
act_limits (C.keys out) s = refl
act_limits C.keys_len s = refl
act_limits C.values_len s = refl
act_limits (C.iter ks vs) s = refl
act_limits (C.taken out) s = refl

-- every call keeps the limits
pub limits_kept : (c : Call) (s : State) → (step c s).1.limits ≡ s.limits
unfolding step
limits_kept c s = go (refusal (checks c s))
  where
    go : (o : Option ℕ) → (settle o c s).1.limits ≡ s.limits
    go none = act_limits c s
    go (some n) = refl

-- and so does a list of calls
pub after_limits : (cs : List Call) (s : State) → (after cs s).limits ≡ s.limits
unfolding after
after_limits [] s = refl
after_limits (c ∷ cs) s = after_limits cs (step c s).1 ∙ limits_kept c s

-- ---- a new map

pub made_refused : (l : Limits) → too_high l ≡ true → make_of l ≡ (refused 15, empty (limit 0 0))
unfolding make_of
made_refused l e = rw e

pub made_done : (l : Limits) → too_high l ≡ false → make_of l ≡ (done, empty l)
unfolding make_of
made_done l e = rw e

pub allowed : (l : Limits) → too_high l ≡ false → Allowed l
allowed l e = go (ltb max_members l.members) (ltb max_rounds l.rounds) refl refl e
  where
    go : (a b : Bool) → ltb max_members l.members ≡ a → ltb max_rounds l.rounds ≡ b → (a || b) ≡ false → Allowed l
    go true b e f h = absurd (true≢false h)
    go false true e f h = absurd (true≢false h)
    go false false e f h = record { members = omega (arith, ltb-false); rounds = omega (arith, ltb-false) }

-- so where a test of it says no
pub may_have : (l : Limits) {b : Bool} → b ≡ too_high l → b ≡ false → Allowed l
may_have l high h = allowed l (sym high ∙ h)

pub not_too_high : (l : Limits) → Allowed l → too_high l ≡ false
not_too_high l h = rw (le-ltb max_members l.members h.members, le-ltb max_rounds l.rounds h.rounds)

-- a map is made exactly where 15 does not hold: where its limits are at most 256 and 1,024; then it has them
pub made_with : (l : Limits) → Allowed l → make_of l ≡ (done, empty l)
made_with l h = made_done l (not_too_high l h)

pub made_exactly : (l : Limits) → ((make_of l).0 ≡ done) ↔ Allowed l
made_exactly l = (λ h. go (too_high l) refl h, λ h. ap (λ (r : Answer × State). r.0) (made_with l h))
  where
    go : (b : Bool) → too_high l ≡ b → (make_of l).0 ≡ done → Allowed l
    go true e h = absurd (let z = sym (ap (λ (r : Answer × State). r.0) (made_refused l e)) ∙ h in let y : ◌≡◌ {A = ℕ} 0 2 = cc in omega arith)
    go false e h = allowed l e

-- what is made is new, refused or not
pub makes_new : (l : Limits) → New (make_of l).1
makes_new l = go (too_high l) refl
  where
    go : (b : Bool) → too_high l ≡ b → New (make_of l).1
    go true e = rw (made_refused l e) record { state = refl; allowed = record { members = omega arith; rounds = omega arith } }
    go false e = rw (made_done l e) record { state = refl; allowed = allowed l e }

-- with a rounds' limit of 0 every append of a poster is refused by 1
pub zero_rounds : (p k v : ℕ) (s : State) → ltb 15 p ≡ false → s.limits.rounds ≡ 0
    → step (C.append p k v) s ≡ (refusing (C.append p k v) 1, s)
zero_rounds p k v s h e = append_full p k v s h (le-leb s.limits.rounds (length s.pairs) (omega arith))
