-- What a line asks, and its answer with the line end. Assumes nothing.
use Prim.Native.Nat.{ℕ, suc, ◌+◌, ◌-◌, ◌≤◌, ◌<◌, min}
use mathlib.Core.Path.{◌≡◌, refl, sym, ap, ◌∙◌}
use mathlib.Core.List.{List, [], ◌∷◌, map}
use mathlib.Core.Bool.{Bool, true, false}
use native.Mathlib.Omega.{arith}
use borrow.Author.Tests.{leb-true, leb-false}
use lib.Dec.{leb}
use lib.ListN.{length, take, drop, set, length-drop}
use lib.Seq.{take_all}
use Rattle.multimap.specs.Map.{state_of}
use Rattle.multimap.specs.WellLinked.{WellLinked}
use Rattle.multimap.specs.declared.ListOrderedMultimap.{ListOrderedMultimap}
use Rattle.parsing.specs.Line.{line_of, keeps, bad, mark_of}
use Rattle.parsing.proofs.Forms.{line_long}
use Rattle.printing.specs.Put.{Put}
use Rattle.printing.specs.Said.{Roomy, max_printed}
use Rattle.printing.proofs.Puts.{put_join}
use Rattle.line_calls.specs.Answer.{marks_line}
use Rattle.line_calls.specs.Replied.{Replies}
use Rattle.line_calls.proofs.Calls.{marks_short, put_over}
use Rattle.one_line.specs.Answers.{printed, Answers}

short_when : (l ms : List ℕ) (t : Bool) → leb (length l) 1100 ≡ t → keeps ms ≡ line_of l → length l ≤ 1100
short_when l ms true i e = leb-true (length l) 1100 i
short_when l ms false i e =
    let f : bad ≡ line_of l = line_long l (leb-false (length l) 1100 i) in
    let z : ◌≡◌ {A = ℕ} 0 1 = cc in
    absurd (omega arith)

-- a line with marks is no longer than a line may be
keeps_short : (l ms : List ℕ) → keeps ms ≡ line_of l → length l ≤ 1100
keeps_short l ms e = short_when l ms (leb (length l) 1100) refl e

drop_two : (l : List ℕ) → drop (min 2 (length l)) l ≡ drop 2 l
drop_two [] = refl
drop_two (a ∷ []) = refl
drop_two (a ∷ (b ∷ l)) = let e : min 2 (suc (suc (length l))) ≡ 2 = omega arith in rw e

-- the marks are what stands after the first two bytes
marks_part : (l : List ℕ) (n : ℕ) → n ≡ min 2 (length l) → take (length l - n) (drop n l) ≡ drop 2 l
marks_part l n e = take_all (length l - n) (drop n l) (omega (arith, length-drop n l)) ∙ ap (λ (k : ℕ). drop k l) e ∙ drop_two l

pub marks_rest : (l : List ℕ) (n : ℕ) → n ≡ min 2 (length l) → keeps (map mark_of (drop 2 l)) ≡ line_of l → marks_line (take (length l - n) (drop n l)) ≡ line_of l
marks_rest l n e h = ap marks_line (marks_part l n e) ∙ sym (marks_short (drop 2 l) (omega (arith, keeps_short l (map mark_of (drop 2 l)) h, length-drop 2 l))) ∙ h

-- a line is answered, with its line end after the text
module _ (line : List ℕ) (m : ListOrderedMultimap) {was out : List ℕ} {m' : ListOrderedMultimap} {n : ℕ} (h : Roomy was) (p : Replies (line_of line) m was out m' n) where
  ended : WellLinked m → Put was 0 (printed line (state_of m)) (set out n 10) (n + 1)
  ended wl = put_join ((p.replied wl).prints.said h).put (record { written = refl; next = refl })

  pub line_answered : Answers line m was (set out n 10) m' (n + 1)
  line_answered =
      record {
        most = omega arith;
        answered =
            λ g wl.
            record {
              bytes = put_over (ended wl) (omega (arith, (ended wl).next));
              count = omega (arith, (ended wl).next);
              state = (p.replied wl).state;
              linked = (p.replied wl).linked;
              same = (p.replied wl).same;
            };
        unanswered = λ g. absurd (omega arith);
      }

-- there is no room
pub line_unanswered : (line : List ℕ) (m : ListOrderedMultimap) (was : List ℕ) → length was < max_printed → Answers line m was was m 0
line_unanswered line m was h =
    record { most = omega arith; answered = λ g. absurd (omega arith); unanswered = λ g. record { kept = refl; none = refl; same = refl } }
