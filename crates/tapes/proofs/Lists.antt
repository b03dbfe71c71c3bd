-- Laws of a list's parts, and of what is printed of it. Assumes nothing.
use Prim.Native.Nat.{ℕ, zero, suc, ◌+◌, ◌≤◌, ◌<◌}
use mathlib.Core.Path.{◌≡◌, refl, sym, ap, ap₂, ◌∙◌}
use mathlib.Core.List.{List, [], ◌∷◌, ◌++◌}
use native.Mathlib.Omega.{arith}
use borrow.Author.Tests.{lt-ltb}
use lib.ListN.{length, get_or, replicate, length-take, length-drop, drop_of_length-le}
use Rattle.steps.specs.State.{Limits, limit}
use Rattle.parsing.specs.Split.{gap, Held}
use Rattle.tapes.specs.Parts.{part_of, rest_of, left_after}
use Rattle.tapes.specs.Printed.{run_text, limits_in, parts_text, lists_after, first_lists, list_text, lists_text}
use Rattle.tapes.proofs.Holds.{held_at, Coming, come_less, come_none}
use Rattle.parsing.proofs.Gaps.{gap_le}

-- the limits that were read of a part
pub limits_of : {x y now : List ℕ} {r : ℕ} → Held x (replicate 2 0) 0 now r → x ≡ y → limit (get_or now 0 0) (get_or now 1 0) ≡ limits_in y
limits_of {x} {y} {now} {r} h e = ap₂ limit (held_at 0 h (omega arith) refl) (held_at 1 h (omega arith) refl) ∙ ap limits_in e

pub run_same : {l l' : Limits} {a b d e f a' b' d' e' f' : List ℕ} → l ≡ l' → a ≡ a' → b ≡ b' → d ≡ d' → e ≡ e' → f ≡ f'
    → run_text l a b d e f ≡ run_text l' a' b' d' e' f'
run_same o p q s t u = rw (o, p, q, s, t, u)

rest_less : (s : List ℕ) → length (rest_of s) ≤ length s
rest_less s = omega (arith, length-drop (gap 59 s + 1) s)

rest_fewer : (s : List ℕ) → 0 < length s → length (rest_of s) < length s
rest_fewer s h = omega (arith, length-drop (gap 59 s + 1) s)

left_less : (s : List ℕ) → length (left_after s) ≤ length s
left_less s =
    let b = rest_of s in
    let c = rest_of b in
    let d = rest_of c in
    let e = rest_of d in
    let f = rest_of e in
    omega (arith, rest_less s, rest_less b, rest_less c, rest_less d, rest_less e, rest_less f)

pub lists_fewer : (s : List ℕ) → 0 < length s → length (lists_after s) < length s
lists_fewer s h = omega (arith, left_less (rest_of s), rest_fewer s h)

part_long : (s : List ℕ) → length (part_of s) ≡ gap 59 s
part_long s = omega (arith, length-take (gap 59 s) s, gap_le 59 s)

-- where no semicolon is left there is no list, and nothing after it
module _ (s name : List ℕ) (e : name ≡ part_of s) where
  pub none_left : length s ≤ length name → rest_of s ≡ lists_after s
  unfolding gap
  none_left h =
      let g : length s ≤ gap 59 s = omega (arith, part_long s, ap length e) in
      let none : rest_of s ≡ [] = drop_of_length-le s {i = gap 59 s + 1} (omega arith) in
      none ∙ sym (ap left_after none)

  pub one_list : length name < length s → name ++ parts_text (rest_of s) ≡ list_text s
  one_list h =
      let g : gap 59 s < length s = omega (arith, part_long s, ap length e) in
      rw (lt-ltb (gap 59 s) (length s) g, e)

first_none : (n : ℕ) → first_lists n [] ≡ []
unfolding first_lists gap
first_none zero = refl
first_none (suc n) = first_none n

-- what is still to come of the lists of a text
pub record Lists (s was out : List ℕ) (place : ℕ) (left : List ℕ) : Type 0 where
  pub more : ℕ
  pub enough : length left ≤ more
  pub coming : Coming was 0 (lists_text s) out place (first_lists more left)

lists_with : {s was out next : List ℕ} {place after : ℕ} (left : List ℕ) (more : ℕ) → 0 < length left → length left ≤ more
    → Coming was 0 (lists_text s) out place (first_lists more left) → Held (list_text left) out place next after → Lists s was next after (lists_after left)
unfolding first_lists
lists_with left zero h e c k = absurd (omega arith)
lists_with left (suc more) h e c k = record { more = more; enough = omega (arith, lists_fewer left h); coming = come_less c k }

pub lists_on : {s was out next : List ℕ} {place after : ℕ} (left : List ℕ) → Lists s was out place left → 0 < length left → Held (list_text left) out place next after
    → Lists s was next after (lists_after left)
lists_on left t h k = lists_with left t.more h t.enough t.coming k

pub lists_done : {s was out : List ℕ} {place : ℕ} (left : List ℕ) → Lists s was out place left → length left ≡ 0 → Held (lists_text s) was 0 out place
lists_done [] t h = come_none (rw (first_none t.more) at t.coming)
lists_done (x ∷ left) t h = absurd (omega arith)
