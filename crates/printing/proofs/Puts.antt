-- Laws of bytes written into a slice one after another. Assumes nothing.
use Prim.Native.Nat.{ℕ, suc, ◌+◌, ◌≤◌}
use mathlib.Core.Path.{◌≡◌, refl, sym, ap, ◌∙◌}
use mathlib.Core.List.{List, [], ◌∷◌, ◌++◌, append_assoc}
use native.Mathlib.Omega.{arith}
use native.Mathlib.Nat.{add-zero, add-suc, suc-add}
use lib.ListN.{length, take, drop, set, length-append}
use lib.Seq.{sets, length-sets}
use borrow.Rule.Slice.PartMut.{put_mid}
use Rattle.std.proofs.lemmas.List.{drop-drop}
use Rattle.std.proofs.lemmas.List.Edits.{sets-eq}
use Rattle.printing.specs.Put.{Put, Wrote}
use Rattle.printing.specs.declared.putting.Writer.{Writer}

-- one list after another is both as one
pub sets_append : (x y l : List ℕ) (i : ℕ) → sets (sets l i x) (i + length x) y ≡ sets l i (x ++ y)
sets_append [] y l i = rw (add-zero i)
sets_append (a ∷ x) y l i = rw (add-suc i (length x), ← suc-add i (length x)) (sets_append x y (set l i a) (suc i))

pub put_join : {a b c x y : List ℕ} {at r s : ℕ} → Put a at x b r → Put b r y c s → Put a at (x ++ y) c s
put_join {a} {b} {c} {x} {y} {at} {r} {s} p q =
    record {
      written = q.written ∙ ap (λ (n : ℕ). sets b n y) p.next ∙ ap (λ (l : List ℕ). sets l (at + length x) y) p.written ∙ sets_append x y a at;
      next = omega (arith, p.next, q.next, length-append x y);
    }

-- the slice keeps its length
pub put_long : {a b x : List ℕ} {at r : ℕ} → Put a at x b r → length b ≡ length a
put_long {a} {b} {x} {at} p = ap length p.written ∙ length-sets a at x

-- bytes copied to their place
pub put_copied : (out bytes ys : List ℕ) (at k : ℕ) → at + length bytes ≤ length out → k ≡ length bytes → ys ≡ bytes
    → Put out at bytes (put_mid at k out ys) (at + length bytes)
put_copied out bytes ys at k h e i =
    let rest : drop k (drop at out) ≡ drop (at + length bytes) out = drop-drop k at out ∙ ap (λ (n : ℕ). drop (at + n) out) e in
    record { written = rw (i, rest, sets-eq bytes out at h) (sym (append_assoc (take at out) bytes (drop (at + length bytes) out))); next = refl }

-- the same of a writer: one text after another, none, and the same by another name
module _ {a b : Writer} {x : List ℕ} (p : Wrote a x b) where
  pub wrote_join : {c : Writer} {y : List ℕ} → Wrote b y c → Wrote a (x ++ y) c
  wrote_join q = record { same_slice = q.same_slice ∙ p.same_slice; put = put_join p.put q.put }

  pub wrote_as : {y : List ℕ} → x ≡ y → Wrote a y b
  wrote_as e = rw e at p

  pub wrote_long : length b.out.now ≡ length a.out.now
  wrote_long = put_long p.put

pub wrote_none : (a : Writer) → Wrote a [] a
wrote_none a = record { same_slice = refl; put = record { written = refl; next = omega arith } }

-- what is still to come of bytes that are written piece by piece
pub record ToCome (out₀ : List ℕ) (at : ℕ) (all : List ℕ) (out : List ℕ) (place : ℕ) (rest : List ℕ) : Type 0 where
  pub come : sets out place rest ≡ sets out₀ at all
  pub ends : place + length rest ≡ at + length all
  pub long : length out ≡ length out₀

pub come_all : (out₀ : List ℕ) (at : ℕ) (all : List ℕ) → ToCome out₀ at all out₀ at all
come_all out₀ at all = record { come = refl; ends = refl; long = refl }

pub come_less : {out₀ all out out' x rest : List ℕ} {at place place' : ℕ} → ToCome out₀ at all out place (x ++ rest) → Put out place x out' place'
    → ToCome out₀ at all out' place' rest
come_less {out₀} {all} {out} {out'} {x} {rest} {at} {place} {place'} t p =
    record {
      come = ap (λ (n : ℕ). sets out' n rest) p.next ∙ ap (λ (l : List ℕ). sets l (place + length x) rest) p.written ∙ sets_append x rest out place ∙ t.come;
      ends = omega (arith, p.next, t.ends, length-append x rest);
      long = put_long p ∙ t.long;
    }

pub come_none : {out₀ all out : List ℕ} {at place : ℕ} → ToCome out₀ at all out place [] → Put out₀ at all out place
come_none {out₀} {all} {out} {at} {place} t = record { written = t.come; next = omega (arith, t.ends) }
