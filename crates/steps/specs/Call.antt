-- The calls of document 01, "The steps", each with its arguments, among them what its lent slices hold at the start; and what a call answers. A call
-- that adds a round says first who posts it, p (document 02, No. 2).
use Rattle.std.specs.Prelude.{Bool, List, [], ◌∷◌, ℕ, eqb, get_or}
use Rattle.steps.specs.Lists.{any}

pub data Call : Type 0 where
  append : (p k v : ℕ) → Call
  insert : (p k v : ℕ) → Call
  insert_all : (p k v : ℕ) (out : List ℕ) → Call
  remove : (k : ℕ) → Call
  remove_all : (k : ℕ) (out : List ℕ) → Call
  entry : (k : ℕ) → Call
  occupied_append : (p k v : ℕ) → Call
  occupied_insert : (p k v : ℕ) → Call
  occupied_remove_entry : (k : ℕ) → Call
  vacant_insert : (p k v : ℕ) → Call
  pop_front : Call
  pop_back : Call
  retain : (marks : List ℕ) → Call
  pack_to : (members rounds : ℕ) → Call
  clear : Call
  get : (k : ℕ) → Call
  get_all : (k : ℕ) (out : List ℕ) → Call
  entry_len : (k : ℕ) → Call
  contains_key : (k : ℕ) → Call
  keys : (out : List ℕ) → Call
  keys_len : Call
  values_len : Call
  iter : (members rounds : List ℕ) → Call
  taken : (out : List ℕ) → Call

-- what every call brings, told alike: its number, its poster and its two arguments, 0 where it has none, what its out slices hold at the start, and
-- its marks
pub record View : Type 0 where
  pub number : ℕ
  pub poster : ℕ
  pub k : ℕ
  pub v : ℕ
  pub out : List ℕ
  pub out2 : List ℕ
  pub marks : List ℕ

abbrev seen : ℕ → ℕ → ℕ → ℕ → List ℕ → List ℕ → List ℕ → View
seen number poster k v out out2 marks = record { number = number; poster = poster; k = k; v = v; out = out; out2 = out2; marks = marks }

-- the table of the calls. Where it is asked only whether a call has a slice, or which it is, this is read
abbrev pub view : Call → View
view (append p k v) = seen 0 p k v [] [] []
view (insert p k v) = seen 1 p k v [] [] []
view (insert_all p k v out) = seen 2 p k v out [] []
view (remove k) = seen 3 0 k 0 [] [] []
view (remove_all k out) = seen 4 0 k 0 out [] []
view (entry k) = seen 5 0 k 0 [] [] []
view (occupied_append p k v) = seen 6 p k v [] [] []
view (occupied_insert p k v) = seen 7 p k v [] [] []
view (occupied_remove_entry k) = seen 8 0 k 0 [] [] []
view (vacant_insert p k v) = seen 9 p k v [] [] []
view pop_front = seen 10 0 0 0 [] [] []
view pop_back = seen 11 0 0 0 [] [] []
view (retain marks) = seen 12 0 0 0 [] [] marks
view (pack_to members rounds) = seen 13 0 members rounds [] [] []
view clear = seen 14 0 0 0 [] [] []
view (get k) = seen 15 0 k 0 [] [] []
view (get_all k out) = seen 16 0 k 0 out [] []
view (entry_len k) = seen 17 0 k 0 [] [] []
view (contains_key k) = seen 18 0 k 0 [] [] []
view (keys out) = seen 19 0 0 0 out [] []
view keys_len = seen 20 0 0 0 [] [] []
view values_len = seen 21 0 0 0 [] [] []
view (iter members rounds) = seen 22 0 0 0 members rounds []
view (taken out) = seen 23 0 0 0 out [] []

-- the call of these: every call is the call of its view (theorem `view_back`, proofs/Views.antt). A number past the table is `values_len`
abbrev pub call_of : ℕ → ℕ → ℕ → ℕ → List ℕ → List ℕ → List ℕ → Call
call_of number p k v out out2 marks =
    get_or
    (append p k v
    ∷ insert p k v
    ∷ insert_all p k v out
    ∷ remove k
    ∷ remove_all k out
    ∷ entry k
    ∷ occupied_append p k v
    ∷ occupied_insert p k v
    ∷ occupied_remove_entry k
    ∷ vacant_insert p k v
    ∷ pop_front
    ∷ pop_back
    ∷ retain marks
    ∷ pack_to k v
    ∷ clear
    ∷ get k
    ∷ get_all k out
    ∷ entry_len k
    ∷ contains_key k
    ∷ keys out
    ∷ keys_len
    ∷ values_len
    ∷ iter out out2
    ∷ taken out
    ∷ [])
    number values_len

-- the numbers of the calls that add a round, of those with an out slice, of that with a second one, of that with marks, and of pack_to
abbrev pub posts : ℕ → Bool
posts number = any (eqb number) (0 ∷ 1 ∷ 2 ∷ 6 ∷ 7 ∷ 9 ∷ [])

abbrev pub lends : ℕ → Bool
lends number = any (eqb number) (2 ∷ 4 ∷ 16 ∷ 19 ∷ 22 ∷ 23 ∷ [])

abbrev pub lends_two : ℕ → Bool
lends_two number = eqb number 22

abbrev pub has_marks : ℕ → Bool
has_marks number = eqb number 12

abbrev pub packs : Call → Bool
packs c = eqb (view c).number 13

-- the slices that a call may write to: one, two for iter, or none
pub record Lent : Type 0 where
  pub out : List ℕ
  pub out2 : List ℕ

abbrev pub lend : List ℕ → List ℕ → Lent
lend out out2 = record { out = out; out2 = out2 }

-- what they hold when the call starts
abbrev pub lent : Call → Lent
lent c = lend (view c).out (view c).out2

pub data Answer : Type 0 where
  refused : (number : ℕ) → Answer
  none : Answer
  done : Answer
  round : ℕ → Answer
  count : ℕ → Answer
  -- was, or is, the member present?
  present : Bool → Answer
  popped : (member round : ℕ) (gone : Bool) → Answer
  occupied : (len : ℕ) → Answer
  vacant : (member : ℕ) → Answer

-- what a call answers, and what its slices hold when it ends
pub record Outcome : Type 0 where
  pub answer : Answer
  pub slices : Lent
