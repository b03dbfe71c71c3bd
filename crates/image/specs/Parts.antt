-- What the parts of reading promise each other.
use Rattle.std.specs.Prelude.{ℕ, ◌+◌, ◌*◌, ◌≤◌, ◌≡◌, List, Result, Ok, Err, length}
use Rattle.steps.specs.State.{Limits, empty}
use Rattle.steps.specs.Proper.{Allowed}
use Rattle.steps.specs.Call.{refused, done}
use Rattle.answers.specs.Answers.{number_of}
use Rattle.answers.specs.declared.Refusal.{Refusal}
use Rattle.multimap.specs.declared.ListOrderedMultimap.{ListOrderedMultimap}
use Rattle.image.specs.Image.{rounds_said, members_said, read_of}
use Rattle.image.specs.Answers.{Reads}

-- the bytes s say n rounds and m members, no more than the limits l, and are as long as n rounds want
pub record RightSizes (l : Limits) (s : List ℕ) (n m : ℕ) : Type 0 where
  pub enough : 8 ≤ length s
  pub rounds : n ≡ rounds_said s
  pub members : m ≡ members_said s
  pub few : n ≤ l.rounds
  pub few_members : m ≤ l.members
  pub long : length s ≡ 8 + 16 * n

-- so, or the reading of s is refused, where a map may have these limits
abbrev pub Said : Limits → List ℕ → Result (ℕ × ℕ) Refusal → Type 0
Said l s (Ok p) = RightSizes l s p.0 p.1
Said l s (Err r) = Allowed l → read_of l s ≡ (refused (number_of r), empty l)

-- s is read as m; or its reading is refused
abbrev pub Restored : Limits → List ℕ → Result (Unit {0}) Refusal → ListOrderedMultimap → Type 0
Restored l s (Ok u) m = Reads l s done m
Restored l s (Err r) m = read_of l s ≡ (refused (number_of r), empty l)
