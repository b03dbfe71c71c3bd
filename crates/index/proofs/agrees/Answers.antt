-- `index::agrees` meets its contract: each place is right, and then each member place; or one is not.
-- Assumes nothing.
use Rattle.std.proofs.Common.{◌≡◌, ◌∙◌, ◌+◌, refl, sym, subst, ℕ, ◌<◌, Bool, true, false, length, get_or, arith, rules}
use Rattle.std.proofs.lemmas.Iterator.{cases_from_all, YieldsList-from_range}
use Rattle.std.proofs.lemmas.List.FromFn.{length-range_with_len, get_or-range_with_len}
use Rattle.std.specs.Bool.{MatchBool}
use Rattle.std.specs.List.{AllWithin, HoldsAt, range_with_len}
use Rattle.index.specs.Agree.{PlaceOk, KeyOk, Decides}
use Rattle.index.proofs.Agree.{right, place_right, key_right, decides_map, if_true, if_false}
use Rattle.index.proofs.agrees.Goals as goal

number : (n k : ℕ) → k < n → get_or (range_with_len 0 n) k 0 ≡ k
number n k l = let z : 0 + k ≡ k = omega arith in get_or-range_with_len 0 n k 0 l ∙ z

-- what `all` says of a test of the numbers below n
below : (r : Bool) (n : ℕ) (P : ℕ → Type 0)
    → MatchBool r (AllWithin P (range_with_len 0 n) 0 (length (range_with_len 0 n)))
    ((k : ℕ) × (k < length (range_with_len 0 n)) × HoldsAt (λ x. P x → ⊥) (range_with_len 0 n) k)
    → Decides r ((k : ℕ) → k < n → P k)
below true n P w = λ k l. subst P (number n k l) (w k 0 (omega arith) (rw length-range_with_len l))
below false n P w =
    let l : w.0 < n = rw length-range_with_len at w.1 in
    λ each. w.2 0 (subst P (sym (number n w.0 l)) (each w.0 l))

pub returns-then-all : goal.returns-then-all
returns-then-all c =
    let a = c.args in
    let P = PlaceOk a.index.now a.keys.now a.used.now in
    let Q = KeyOk a.index.now a.keys.now a.used.now in
    let places =
    below c.all.result 512 P
    (cases_from_all _ _ c.all.result P (λ p. P p → ⊥) c.all.ensures.ran (YieldsList-from_range 0 512 512 refl refl) (λ x q k. search rules)
    (λ x q k. search rules))
    in
    let keys =
    below c.all-then-all.result 256 Q
    (cases_from_all _ _ c.all-then-all.result Q (λ p. Q p → ⊥) c.all-then-all.ensures.ran (YieldsList-from_range 0 256 256 refl refl)
    (λ x q k. search rules) (λ x q k. search rules))
    in
    λ ks u.
    decides_map c.all-then-all.result (right _ _ _ ks u c.told-index (if_true c.all.result c.if-all.true places)) (key_right _ _ _ _ u) keys

pub returns-else-all : goal.returns-else-all
returns-else-all c =
    let a = c.args in
    let P = PlaceOk a.index.now a.keys.now a.used.now in
    let places =
    below c.all.result 512 P
    (cases_from_all _ _ c.all.result P (λ p. P p → ⊥) c.all.ensures.ran (YieldsList-from_range 0 512 512 refl refl) (λ x q k. search rules)
    (λ x q k. search rules))
    in
    λ ks u. rw c.if-all.false (λ h. if_false c.all.result c.if-all.false places (place_right _ _ _ _ u h))
