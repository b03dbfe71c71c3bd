-- A list of calls held in slices, and what a run of it leaves in them, for any kind of map. Seven numbers for each call: its number in call_of's
-- table (crate steps), its poster, its arguments k and v, and the lengths of its out slice, its second out slice and its marks. The out slices, the
-- second ones and the marks stand one after the other, each kind in a slice of its own. An answer is four numbers.
use Rattle.std.specs.Prelude.{◌≡◌, Bool, cond, ◌&&◌, ◌||◌, List, [], ◌∷◌, ◌++◌, ℕ, ◌+◌, ◌-◌, ◌≤◌, eqb, leb, ltb, length, take, drop}
use Rattle.steps.specs.Call.{Call, Outcome, call_of, lends, lends_two, has_marks}
use Rattle.steps.specs.Step.{over}
use Rattle.steps.specs.Trace.{Kind, Trace}
use Rattle.steps.specs.Coded.{coded}

-- Is there such a call, with slices and marks only where it has them?
abbrev pub known : ℕ → ℕ → ℕ → ℕ → Bool
known op n n2 n3 = ltb op 24 && ((lends op || eqb n 0) && ((lends_two op || eqb n2 0) && (has_marks op || eqb n3 0)))

-- Are its slices and marks all there, and room for its answer?
unfoldable pub fits : ℕ → ℕ → ℕ → ℕ → ℕ → ℕ → ℕ → ℕ → Bool
fits op n n2 n3 room room2 room3 space = known op n n2 n3 && ((leb n room && leb n2 room2) && (leb n3 room3 && leb 4 space))

-- The calls that the slices hold, up to the end or to the first that does not fit; `space` numbers may be written as answers.
unfoldable pub decode : List ℕ → List ℕ → List ℕ → List ℕ → ℕ → List Call
decode [] outs outs2 marks space = []
decode (a ∷ []) outs outs2 marks space = []
decode (a ∷ b ∷ []) outs outs2 marks space = []
decode (a ∷ b ∷ c ∷ []) outs outs2 marks space = []
decode (a ∷ b ∷ c ∷ d ∷ []) outs outs2 marks space = []
decode (a ∷ b ∷ c ∷ d ∷ e ∷ []) outs outs2 marks space = []
decode (a ∷ b ∷ c ∷ d ∷ e ∷ f ∷ []) outs outs2 marks space = []
decode (op ∷ poster ∷ k ∷ v ∷ n ∷ n2 ∷ n3 ∷ calls) outs outs2 marks space =
    cond (fits op n n2 n3 (length outs) (length outs2) (length marks) space)
    (call_of op poster k v (take n outs) (take n2 outs2) (take n3 marks) ∷ decode calls (drop n outs) (drop n2 outs2) (drop n3 marks) (space - 4))
    []

-- What a list of outcomes leaves in the out slices, the second ones and the answers.
abbrev pub outs_of : List Outcome → List ℕ
outs_of [] = []
outs_of (o ∷ os) = o.slices.out ++ outs_of os

abbrev pub outs2_of : List Outcome → List ℕ
outs2_of [] = []
outs2_of (o ∷ os) = o.slices.out2 ++ outs2_of os

abbrev pub answers_of : List Outcome → List ℕ
answers_of [] = []
answers_of (o ∷ os) = coded o.answer ++ answers_of os

module _ {Map : Type 0} (M : Kind Map) where
  -- All calls that the slices hold were run, from m to m', and they are n. What stands past that which the outcomes leave is kept.
  pub record Ran (calls outs outs2 marks ans : List ℕ) (m : Map) (outs' outs2' ans' : List ℕ) (m' : Map) (n : ℕ) : Type 0 where
    pub outcomes : List Outcome
    pub trace : Trace M (decode calls outs outs2 marks (length ans)) m outcomes m'
    pub outs_are : outs' ≡ over (outs_of outcomes) outs
    pub outs2_are : outs2' ≡ over (outs2_of outcomes) outs2
    pub ans_are : ans' ≡ over (answers_of outcomes) ans
    pub number : n ≡ length (decode calls outs outs2 marks (length ans))

  -- A run that began with m₀ and these slices stands with m and those: i numbers of the calls, at, at2 and at3 of the slices and marks and a of the
  -- answers are passed, and ran calls. Whatever a run of the rest comes to stands behind what is done.
  pub record Reached (calls outs₀ outs2₀ marks ans₀ : List ℕ) (m₀ : Map) (outs outs2 ans : List ℕ) (m : Map) (i at at2 at3 a ran : ℕ) : Type 0 where
    pub i_in : i ≤ length calls
    pub at_in : at ≤ length outs
    pub at2_in : at2 ≤ length outs2
    pub at3_in : at3 ≤ length marks
    pub a_in : a ≤ length ans
    pub outs_len : length outs ≡ length outs₀
    pub outs2_len : length outs2 ≡ length outs2₀
    pub ans_len : length ans ≡ length ans₀
    pub linked : M.Linked m
    pub left : (o o2 b : List ℕ) (m' : Map) (n : ℕ) → Ran (drop i calls) (drop at outs) (drop at2 outs2) (drop at3 marks) (drop a ans) m o o2 b m' n
        → Ran calls outs₀ outs2₀ marks ans₀ m₀ (take at outs ++ o) (take at2 outs2 ++ o2) (take a ans ++ b) m' (ran + n)
