-- Where a run of a list of calls stands in its slices, and what the functions that move it on ensure.
use Rattle.std.specs.Prelude.{◌≡◌, Bool, false, List, [], ◌∷◌, ℕ, Option, Some, None, ◌+◌, ◌*◌, ◌-◌, ◌≤◌, ◌<◌, length, drop}
use Rattle.steps.specs.Call.{Call, lends, lends_two}
use Rattle.multimap.specs.WellLinked.{linked}
use Rattle.multimap.specs.declared.ListOrderedMultimap.{ListOrderedMultimap}
use Rattle.replay.specs.Tape.{known, fits, decode, Ran, Reached}
use Rattle.replay.specs.declared.Head.{Head}
use Rattle.replay.specs.declared.Place.{Place}
use Rattle.replay.specs.declared.Tape.{Tape}

-- The seven numbers that a list of numbers begins with.
abbrev pub head_of : List ℕ → Option Head
head_of [] = None
head_of (a ∷ []) = None
head_of (a ∷ b ∷ []) = None
head_of (a ∷ b ∷ c ∷ []) = None
head_of (a ∷ b ∷ c ∷ d ∷ []) = None
head_of (a ∷ b ∷ c ∷ d ∷ e ∷ []) = None
head_of (a ∷ b ∷ c ∷ d ∷ e ∷ f ∷ []) = None
head_of (a ∷ b ∷ c ∷ d ∷ e ∷ f ∷ g ∷ l) = Some (record { op = a; poster = b; k = c; v = d; n = e; n2 = f; n3 = g })

abbrev pub known_head : Head → Bool
known_head h = known h.op h.n h.n2 h.n3

-- A call that may be made: there is one of this number, and its slices are empty where it has none.
pub record Ready (op : ℕ) (out out2 : List ℕ) : Type 0 where
  pub known : op < 24
  pub no_slice : lends op ≡ false → length out ≡ 0
  pub no_second : lends_two op ≡ false → length out2 ≡ 0

-- The sums that lead past the call at p are numbers of 64 bits.
pub record Small (p : Place) (h : Head) : Type 0 where
  pub out : p.out + h.n < 18446744073709551616
  pub out2 : p.out2 + h.n2 < 18446744073709551616
  pub mark : p.mark + h.n3 < 18446744073709551616
  pub ran : p.ran + 1 < 18446744073709551616

-- q is past the call at p.
pub record Past (p : Place) (h : Head) (q : Place) : Type 0 where
  pub out : q.out ≡ p.out + h.n
  pub out2 : q.out2 ≡ p.out2 + h.n2
  pub mark : q.mark ≡ p.mark + h.n3
  pub ran : q.ran ≡ p.ran + 1

-- p stands within the slices.
pub record Within (p : Place) (t : Tape) : Type 0 where
  pub call : 7 * p.ran ≤ length t.calls.now
  pub out : p.out ≤ length t.outs.now
  pub out2 : p.out2 ≤ length t.outs2.now
  pub mark : p.mark ≤ length t.marks.now
  pub answer : 4 * p.ran ≤ length t.answers.now

-- Are the slices and marks of a call all there from p on, and room for its answer?
abbrev pub fits_at : Place → Head → Tape → Bool
fits_at p h t =
    fits h.op h.n h.n2 h.n3 (length t.outs.now - p.out) (length t.outs2.now - p.out2) (length t.marks.now - p.mark) (length t.answers.now - 4 * p.ran)

-- The calls that the slices hold from p on.
abbrev pub rest : Place → Tape → List Call
rest p t =
    decode (drop (7 * p.ran) t.calls.now) (drop p.out t.outs.now) (drop p.out2 t.outs2.now) (drop p.mark t.marks.now) (length (drop (4 * p.ran) t.answers.now))

-- The same slices: nothing is written to the calls and the marks.
pub record Same (t₀ t : Tape) : Type 0 where
  pub calls : t.calls.now ≡ t₀.calls.now
  pub marks : t.marks.now ≡ t₀.marks.now
  pub outs : t.outs.ghost_name ≡ t₀.outs.ghost_name
  pub outs2 : t.outs2.ghost_name ≡ t₀.outs2.ghost_name
  pub answers : t.answers.ghost_name ≡ t₀.answers.ghost_name

-- All calls that the slices hold were run, from m₀ to m, and they are n.
pub record AllRan (t₀ : Tape) (m₀ : ListOrderedMultimap) (t : Tape) (m : ListOrderedMultimap) (n : ℕ) : Type 0 where
  pub same : Same t₀ t
  pub ran : Ran linked t₀.calls.now t₀.outs.now t₀.outs2.now t₀.marks.now t₀.answers.now m₀ t.outs.now t.outs2.now t.answers.now m n

-- A run that began with t₀ and m₀ stands at p with t and m.
pub record At (t₀ : Tape) (m₀ : ListOrderedMultimap) (p : Place) (t : Tape) (m : ListOrderedMultimap) : Type 0 where
  pub same : Same t₀ t
  pub reached : Reached linked t₀.calls.now t₀.outs.now t₀.outs2.now t₀.marks.now t₀.answers.now m₀ t.outs.now t.outs2.now t.answers.now m (7 * p.ran) p.out p.out2 p.mark (4 * p.ran) p.ran

-- A call was made, from p to q: every run that stands at p stands at q now.
pub record Onward (p : Place) (t : Tape) (m : ListOrderedMultimap) (q : Place) (t' : Tape) (m' : ListOrderedMultimap) : Type 0 where
  pub within : Within q t'
  pub same : Same t t'
  pub keeps : (t₀ : Tape) (m₀ : ListOrderedMultimap) → At t₀ m₀ p t m → At t₀ m₀ q t' m'
  pub onward : p.ran + 1 ≤ q.ran

-- The list does not go on, and nothing is changed.
pub record Ended (p : Place) (t : Tape) (m : ListOrderedMultimap) (t' : Tape) (m' : ListOrderedMultimap) : Type 0 where
  pub none : rest p t ≡ []
  pub tape_is : t' ≡ t
  pub map_is : m' ≡ m

-- Either a call was made, and q is past it, or the list does not go on.
abbrev pub Advanced : Place → Tape → ListOrderedMultimap → Option Place → Tape → ListOrderedMultimap → Type 0
Advanced p t m (Some q) t' m' = Onward p t m q t' m'
Advanced p t m None t' m' = Ended p t m t' m'
