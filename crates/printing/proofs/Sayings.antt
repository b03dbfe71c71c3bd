-- How long an answer's text is; and what is printed where there is room. Assumes nothing.
use Prim.Native.Nat.{ℕ, ◌+◌, ◌≤◌, ◌<◌}
use mathlib.Core.Path.{◌≡◌}
use mathlib.Core.Bool.{true, false}
use mathlib.Core.List.{List, [], ◌++◌}
use native.Mathlib.Omega.{arith}
use lib.ListN.{length, length-append}
use Rattle.steps.specs.Call.{Answer, lend, refused, none, done, round, count, present, popped, occupied, vacant}
use Rattle.printing.specs.Text.{spaced}
use Rattle.printing.specs.Reply.{text_of, kept, old_text, gone_text, stays_text}
use Rattle.printing.specs.Said.{Said, Prints, Roomy, max_printed}
use Rattle.printing.specs.Put.{Wrote}
use Rattle.printing.specs.declared.putting.Writer.{Writer}
use Rattle.printing.proofs.Runs.{after_long}

popped_long : (k v : ℕ) (end : List ℕ) → length end ≤ 6 → length (spaced k ++ (spaced v ++ end)) ≤ 48
popped_long k v end h = omega (arith, length-append (spaced k) (spaced v ++ end), length-append (spaced v) end, after_long 32 k, after_long 32 v)

pub answer_long : (a : Answer) → length (text_of (kept (lend [] [])) a) ≤ 51
answer_long (refused n) = omega (arith, after_long 32 n)
answer_long none = omega arith
answer_long done = omega arith
answer_long (round v) = omega arith
answer_long (count n) = omega (arith, after_long 32 n)
answer_long (present true) = omega arith
answer_long (present false) = omega arith
answer_long (popped k v true) = omega (arith, popped_long k v gone_text (omega arith))
answer_long (popped k v false) = omega (arith, popped_long k v stays_text (omega arith))
answer_long (occupied n) = omega arith
answer_long (vacant k) = omega arith

-- `old` and any number are at most 24 bytes
pub old_at : {was now : Writer} (n : ℕ) → Wrote was (old_text ++ spaced n) now → now.at ≤ was.at + 24
old_at {was} {now} n w = omega (arith, w.put.next, after_long 32 n)

-- what was written to a writer's whole slice
pub said : {was now : Writer} {text : List ℕ} → Wrote was text now → was.at ≡ 0 → length text < max_printed → Said was.out.now text now.out.now now.at
said {was} {now} {text} w e h = record { put = rw e at w.put; room = omega (arith, w.put.next) }

-- there is room
pub prints : {was x out : List ℕ} {r : ℕ} → Roomy was → Said was x out r → Prints was x out r
prints h s = record { said = λ g. s; unsaid = λ g. absurd (omega arith) }

pub prints_as : {was x y out : List ℕ} {r : ℕ} → Prints was x out r → x ≡ y → Prints was y out r
prints_as p e = rw e at p
