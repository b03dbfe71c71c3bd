-- What a line asks, answered: its text, and the state after it.
use Rattle.std.specs.Prelude.{ℕ, Bool, true, cond, List, map, leb, length, replicate}
use Rattle.steps.specs.State.{State}
use Rattle.steps.specs.Call.{Outcome, Lent}
use Rattle.steps.specs.Call as C
use Rattle.steps.specs.Step.{step}
use Rattle.steps.specs.Accounting.{is_refused}
use Rattle.parsing.specs.Line.{Line, adds, inserts, removes, front, back, keeps, lists, members, bad, mark_of, max_line}
use Rattle.printing.specs.Reply.{text_of, old, kept, listed, keyed, bad_text}

-- what the lent slices hold before a call. They are as long as any result
abbrev pub blank : List ℕ
blank = replicate 1024 0

-- a call's outcome printed, and the state after it
abbrev pub reply : (Lent → ℕ → List ℕ) → Outcome × State → List ℕ × State
reply counted d = (text_of (counted d.0.slices) d.0.answer, d.1)

-- what a line asks, on a state. Its adding calls post as 0
unfoldable pub answer_of : Line → State → List ℕ × State
answer_of (adds k v) s = reply kept (step (C.append 0 k v) s)
answer_of (inserts k v) s = reply old (step (C.insert_all 0 k v blank) s)
answer_of (removes k) s = reply old (step (C.remove_all k blank) s)
answer_of front s = reply kept (step C.pop_front s)
answer_of back s = reply kept (step C.pop_back s)
answer_of (keeps marks) s = reply kept (step (C.retain marks) s)
answer_of lists s = reply listed (step (C.iter blank blank) s)
answer_of members s = reply keyed (step (C.keys blank) s)
answer_of bad s = (bad_text, s)

-- whether a call of a line is refused
abbrev pub refuses : C.Call → State → Bool
refuses c s = is_refused (step c s).0.answer

-- whether a line leaves the very map: its call is refused or only reads, or it makes none
unfoldable pub idle : Line → State → Bool
idle (adds k v) s = refuses (C.append 0 k v) s
idle (inserts k v) s = refuses (C.insert_all 0 k v blank) s
idle (removes k) s = refuses (C.remove_all k blank) s
idle front s = refuses C.pop_front s
idle back s = refuses C.pop_back s
idle (keeps marks) s = refuses (C.retain marks) s
idle lists s = true
idle members s = true
idle bad s = true

-- the line that marks ask, given by their characters. More than a line has ask nothing
abbrev pub marks_line : List ℕ → Line
marks_line bytes = cond (leb (length bytes) max_line) (keeps (map mark_of bytes)) bad
