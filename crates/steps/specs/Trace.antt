-- A list of calls on a map, each call on the map that the one before gave back; and what is claimed of the list as a whole (demand 3).
use Rattle.std.specs.Prelude.{◌≡◌, ◌↔◌, true, false, List, [], ◌∷◌, ℕ, ◌+◌, min, length, get_or}
use Rattle.std.proofs.Math.Option.{none}
use Rattle.steps.specs.State.{State, empty, max_taken}
use Rattle.steps.specs.Call.{Call, Outcome, refused, append, pack_to}
use Rattle.steps.specs.Step as S
use Rattle.steps.specs.Step.{checks, ahead, refusal, step, after}
use Rattle.steps.specs.Accounting.{is_refused, Flow, nobody, total, moves, plus}
use Rattle.steps.specs.Proper.{Proper}

-- a kind of map: the state that one represents; what it is to be well-linked; and to have its places as pack_to leaves them
pub record Kind (Map : Type 0) : Type 1 where
  pub abs : Map → State
  pub Linked : Map → Type 0
  pub Packed : Map → Type 0

module _ {Map : Type 0} (M : Kind Map) where
  -- what the function of a call ensures: m is the map that it is given, o its outcome and m' the map that it gives back
  pub record Does (c : Call) (m : Map) (o : Outcome) (m' : Map) : Type 0 where
    pub outcome : o ≡ (step c (M.abs m)).0
    pub state : M.abs m' ≡ (step c (M.abs m)).1
    pub linked : M.Linked m'
    pub same : is_refused o.answer ≡ true → m' ≡ m
    pub packed : (a b : ℕ) → c ≡ pack_to a b → is_refused o.answer ≡ false → M.Packed m'

  -- the calls of a list, from a map to a map, with their outcomes. Each call promises its step of a well-linked map
  pub data Trace : List Call → Map → List Outcome → Map → Type 0 where
    stop : {m : Map} → Trace [] m [] m
    call : {c : Call} {cs : List Call} {m m' m'' : Map} {o : Outcome} {os : List Outcome}
        → (M.Linked m → Does c m o m') → Trace cs m' os m'' → Trace (c ∷ cs) m (o ∷ os) m''

  -- Q holds at each call of a list: of the call, the map before it, its outcome and the map after it
  abbrev pub Along : (Q : Call → Map → Outcome → Map → Type 0) {cs : List Call} {m m' : Map} {os : List Outcome} → Trace cs m os m' → Type 0
  Along Q stop = Unit {0}
  Along Q (call {c} {m} {m'} {o} d t) = Q c m o m' × Along Q t

  -- the rounds accepted, handed out and dropped, by what the map held and answered
  abbrev pub flow_along : {cs : List Call} {m m' : Map} {os : List Outcome} → Trace cs m os m' → Flow
  flow_along stop = record { accepted = nobody; handed = 0; dropped = 0 }
  flow_along (call {c} {m} {o} d t) = plus (moves c (M.abs m) o) (flow_along t)

  -- an append that no check placed before 1 turns away is refused by 1 exactly when the club's limit of rounds is held just before it
  abbrev pub AppendExact : Call → Map → Outcome → Map → Type 0
  AppendExact c m o m' = (p k v : ℕ) → c ≡ append p k v → refusal (ahead 1 (checks c (M.abs m))) ≡ none
      → (o.answer ≡ refused 1) ↔ (length (M.abs m).pairs ≡ (M.abs m).limits.rounds)

  -- a refused call gives back its very map
  abbrev pub RefusedSame : Call → Map → Outcome → Map → Type 0
  RefusedSame c m o m' = is_refused o.answer ≡ true → m' ≡ m

  -- right after a pack_to that is not refused, the places are as the step says
  abbrev pub PackedAfter : Call → Map → Outcome → Map → Type 0
  PackedAfter c m o m' = (a b : ℕ) → c ≡ pack_to a b → is_refused o.answer ≡ false → M.Packed m'

  -- the limits of the map are kept
  abbrev pub LimitsKept : Call → Map → Outcome → Map → Type 0
  LimitsKept c m o m' = (M.abs m').limits ≡ (M.abs m).limits

  -- the claim about a list of calls on an empty map, as a whole
  pub record Obeys {cs : List Call} {m m' : Map} {os : List Outcome} (t : Trace cs m os m') : Type 0 where
    -- the outcomes, and P, K, T and the limits, are those of the steps, which start from their own empty state with the limits of the map m
    pub outcomes : os ≡ S.outcomes cs (empty (M.abs m).limits)
    pub state : M.abs m' ≡ after cs (empty (M.abs m).limits)
    pub linked : M.Linked m'
    pub linked_all : Along (λ c m o m'. M.Linked m') t
    -- accepted, of all posters summed = held + handed out + dropped
    pub balanced : total (flow_along t).accepted ≡ length (M.abs m').pairs + (flow_along t).handed + (flow_along t).dropped
    -- each counter of T is the rounds accepted from its poster, or its ceiling; a number past the posters has none
    pub counted : (p : ℕ) → get_or (M.abs m').taken p 0 ≡ min ((flow_along t).accepted p) max_taken
    pub appends : Along AppendExact t
    pub proper : Proper (M.abs m')
    pub same : Along RefusedSame t
    pub packed : Along PackedAfter t
    pub limits : Along LimitsKept t
