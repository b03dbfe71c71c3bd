-- What a call did, printed; and the marks that are copied for one. Assumes nothing.
use Prim.Native.Nat.{ℕ, ◌+◌, ◌≤◌}
use mathlib.Core.Path.{◌≡◌, refl, sym, ap, ◌∙◌}
use mathlib.Core.List.{List, ◌++◌, map}
use mathlib.Core.Bool.{true}
use native.Mathlib.Omega.{arith}
use borrow.Author.Tests.{le-leb}
use lib.ListN.{length, drop}
use lib.Seq.{sets-eq}
use Rattle.steps.specs.State.{State}
use Rattle.steps.specs.Call.{Call, Answer, Outcome, Lent, lend}
use Rattle.steps.specs.Step.{step, over}
use Rattle.steps.specs.Accounting.{is_refused}
use Rattle.multimap.specs.Map.{state_of}
use Rattle.multimap.specs.WellLinked.{WellLinked, Calls}
use Rattle.multimap.specs.declared.ListOrderedMultimap.{ListOrderedMultimap}
use Rattle.parsing.specs.Line.{Line, keeps, bad, mark_of}
use Rattle.printing.specs.Put.{Put}
use Rattle.printing.specs.Reply.{text_of, bad_text}
use Rattle.printing.specs.Said.{Prints}
use Rattle.line_calls.specs.Answer.{reply, answer_of, idle, refuses, marks_line}
use Rattle.line_calls.specs.Replied.{Replies, Seen, Shows}
use Rattle.printing.proofs.Sayings.{prints_as}

-- the outcome is that of the step, and so is its text
module _ {l : Line} {c : Call} {m m' : ListOrderedMultimap} {o o2 was out : List ℕ} {a : Answer} {n : ℕ} (counted : Lent → ℕ → List ℕ)
    (e : answer_of l (state_of m) ≡ reply counted (step c (state_of m))) (d : Calls c m (record { answer = a; slices = lend o o2 }) m')
    (p : Prints was (text_of (counted (lend o o2)) a) out n) where
  replied_when : (WellLinked m → idle l (state_of m) ≡ true → m' ≡ m) → Replies l m was out m' n
  replied_when f =
      record {
        short = λ h. (p.said h).room;
        replied =
            λ wl.
            record {
              prints = prints_as p (ap (λ (o : Outcome). text_of (counted o.slices) o.answer) (d wl).outcome ∙ sym (ap (λ (x : List ℕ × State). x.0) e));
              state = (d wl).state ∙ sym (ap (λ (x : List ℕ × State). x.1) e);
              linked = (d wl).linked;
              same = f wl;
            };
      }

  -- a refused call leaves the very map
  pub replied : idle l (state_of m) ≡ refuses c (state_of m) → Replies l m was out m' n
  replied f = replied_when (λ wl h. (d wl).same (ap (λ (o : Outcome). is_refused o.answer) (d wl).outcome ∙ sym f ∙ h))

-- a call that only reads leaves it too
pub shown : {l : Line} {c : Call} {m : ListOrderedMultimap} {o o2 was out : List ℕ} {a : Answer} {n : ℕ} (counted : Lent → ℕ → List ℕ)
    → ((α : ListOrderedMultimap) → answer_of l (state_of α) ≡ reply counted (step c (state_of α)))
    → ((α : ListOrderedMultimap) → Seen l m α → Calls c α (record { answer = a; slices = lend o o2 }) α)
    → Prints was (text_of (counted (lend o o2)) a) out n → Shows l m was out n
shown counted e d p = record { shows = λ α h. replied_when counted (e α) (d α h) p (λ wl h. refl) }

-- what is written to the front is there
pub put_over : {was x out : List ℕ} {r : ℕ} → Put was 0 x out r → length x ≤ length was → out ≡ over x was
put_over {was} {x} {out} {r} p h = p.written ∙ sets-eq x was 0 (omega arith) ∙ ap (λ (n : ℕ). x ++ drop n was) (zero_plus (length x))
  where
    zero_plus : (n : ℕ) → 0 + n ≡ n
    zero_plus n = omega arith

-- ---- lines

-- a line that is none prints so, and leaves the map
pub replied_bad : {l : Line} (m : ListOrderedMultimap) {was out : List ℕ} {n : ℕ} → Prints was bad_text out n → bad ≡ l → Replies l m was out m n
unfolding answer_of
replied_bad m p e = rw (← e) (record { short = λ h. (p.said h).room; replied = λ wl. record { prints = p; state = refl; linked = wl; same = λ e. refl } })

pub marks_short : (bytes : List ℕ) → length bytes ≤ 1100 → keeps (map mark_of bytes) ≡ marks_line bytes
marks_short bytes h = rw (le-leb (length bytes) 1100 h)
