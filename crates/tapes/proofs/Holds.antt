-- Laws of what is held in a slice piece by piece, as far as it is long. Assumes nothing.
use Prim.Native.Nat.{ℕ, ◌+◌, ◌-◌, ◌≤◌, ◌<◌}
use mathlib.Core.Path.{◌≡◌, refl, sym, ap, subst, ◌∙◌}
use mathlib.Core.List.{List, [], ◌++◌, append_assoc, append-nil}
use native.Mathlib.Omega.{arith}
use mathlib.Core.Bool.{Bool, true, false}
use borrow.Author.Tests.{leb-true, leb-false}
use lib.Dec.{leb}
use lib.ListN.{length, get_or, take, drop, length-take, length-append, get_or-eq_default}
use lib.Seq.{take_all, drop-drop, get_or-take, get_or-drop}
use Rattle.parsing.specs.Split.{Held}
use Rattle.parsing.proofs.Splits.{take_front}
use Rattle.tapes.specs.Kept.{Kept}
use Rattle.tapes.specs.declared.rows.Page.{Page}

pub held_none : (a : List ℕ) (at : ℕ) → at ≤ length a → Held [] a at a at
held_none a at h =
    record {
      front = sym (take_all (length a) (take at a) (omega (arith, length-take at a))) ∙ ap (take (length a)) (sym (append-nil (take at a)));
      past = refl;
      within = h;
      long = refl;
    }

pub held_as : {x y a b : List ℕ} {at r : ℕ} → Held x a at b r → x ≡ y → Held y a at b r
held_as {x} {y} {a} {b} {at} {r} h e = rw e at h

-- no fewer are held then
held_more : {x a b : List ℕ} {at r : ℕ} → at ≤ length a → Held x a at b r → at ≤ r
held_more {x} {a} {b} {at} {r} i h =
    omega (arith, h.within, length-take r b, ap length h.front, length-take (length a) (take at a ++ x), length-append (take at a) x, length-take at a)

-- of what is held from the front of a slice of zeros: the number at i, 0 where there is none
pub held_at : {x a b : List ℕ} {r : ℕ} (i : ℕ) → Held x a 0 b r → i < length a → get_or a i 0 ≡ 0 → get_or b i 0 ≡ get_or x i 0
held_at {x} {a} {b} {r} i h j z = go (leb r i) refl
  where
    go : (t : Bool) → leb r i ≡ t → get_or b i 0 ≡ get_or x i 0
    go true e =
        let g : r ≤ i = leb-true r i e in
        let k : r + (i - r) ≡ i = omega arith in
        let n : length x ≤ i = omega (arith, h.within, length-take r b, ap length h.front, length-take (length a) x) in
        subst (λ (m : ℕ). get_or b m 0 ≡ get_or a m 0) k (sym (get_or-drop r b (i - r) 0) ∙ ap (λ (l : List ℕ). get_or l (i - r) 0) h.past ∙ get_or-drop r a (i - r) 0)
        ∙ z
        ∙ sym (get_or-eq_default x 0 {n = i} n)
    go false e =
        let g : i < r = leb-false r i e in
        sym (get_or-take r b i 0 g) ∙ ap (λ (l : List ℕ). get_or l i 0) h.front ∙ get_or-take (length a) x i 0 j

-- what is kept past a place is kept past a later one
past_more : (a b : List ℕ) (n k : ℕ) → n ≤ k → drop n b ≡ drop n a → drop k b ≡ drop k a
past_more a b n k h e =
    let f : n + (k - n) ≡ k = omega arith in
    subst (λ (j : ℕ). drop j b ≡ drop j a) f (sym (drop-drop (k - n) n b) ∙ ap (drop (k - n)) e ∙ drop-drop (k - n) n a)

-- what is still to come of that which is held piece by piece
pub record Coming (was : List ℕ) (at : ℕ) (all : List ℕ) (now : List ℕ) (place : ℕ) (rest : List ℕ) : Type 0 where
  pub come : take (length was) (take place now ++ rest) ≡ take (length was) (take at was ++ all)
  pub past : drop place now ≡ drop place was
  pub within : place ≤ length now
  pub long : length now ≡ length was

pub come_all : (was : List ℕ) (at : ℕ) (all : List ℕ) → at ≤ length was → Coming was at all was at all
come_all was at all h = record { come = refl; past = refl; within = h; long = refl }

pub come_less : {was all now next x rest : List ℕ} {at place after : ℕ} → Coming was at all now place (x ++ rest) → Held x now place next after
    → Coming was at all next after rest
come_less {was} {all} {now} {next} {x} {rest} {at} {place} {after} t h =
    record {
      come =
          ap (λ (l : List ℕ). take (length was) (l ++ rest)) h.front
          ∙ ap (λ (n : ℕ). take (length was) (take n (take place now ++ x) ++ rest)) t.long
          ∙ take_front (length was) (take place now ++ x) rest
          ∙ ap (take (length was)) (append_assoc (take place now) x rest)
          ∙ t.come;
      past = h.past ∙ past_more was now place after (held_more t.within h) t.past;
      within = h.within;
      long = h.long ∙ t.long;
    }

pub come_none : {was all now : List ℕ} {at place : ℕ} → Coming was at all now place [] → Held all was at now place
come_none {was} {all} {now} {at} {place} t =
    record {
      front =
          sym (take_all (length was) (take place now) (omega (arith, length-take place now, t.long, t.within)))
          ∙ ap (take (length was)) (sym (append-nil (take place now)))
          ∙ t.come;
      past = t.past;
      within = t.within;
      long = t.long;
    }

-- one piece after another is both as one
pub held_join : {x y a b c : List ℕ} {at r s : ℕ} → Held x a at b r → Held y b r c s → Held (x ++ y) a at c s
held_join {x} {y} {a} {b} {c} {at} {r} {s} p q =
    record {
      front =
          q.front
          ∙ ap (λ (n : ℕ). take n (take r b ++ y)) p.long
          ∙ ap (λ (l : List ℕ). take (length a) (l ++ y)) p.front
          ∙ take_front (length a) (take at a ++ x) y
          ∙ ap (take (length a)) (append_assoc (take at a) x y);
      past = q.past ∙ past_more a b r s (held_more p.within q) p.past;
      within = q.within;
      long = q.long ∙ p.long;
    }

-- the same of a page
module _ {a b : Page} {x : List ℕ} (p : Kept a x b) where
  pub kept_join : {c : Page} {y : List ℕ} → Kept b y c → Kept a (x ++ y) c
  kept_join q = record { same_slice = q.same_slice ∙ p.same_slice; held = held_join p.held q.held }

  pub kept_as : {y : List ℕ} → x ≡ y → Kept a y b
  kept_as e = rw e at p
