-- A reader of what get_all wrote out gives the member's record, of any kind of map whose get_all does its step:
--     filled_record      what get_all filled, where it answered a count, is the record
--     whole_record       that is what a new reader of it has to give
--     record_mix         a run of calls on the reader answers what the definition gives on the record
--     record_forward     calls of `next` alone give the record in order, and then none
--     record_backward    calls of `next_back` alone give it in reverse order, and then none
-- Assumes nothing.
use Prim.Native.Nat.{ℕ, ◌-◌}
use mathlib.Core.Path.{◌≡◌, sym, ◌∙◌, ap}
use mathlib.Core.Bool.{Bool, true, false, true≢false}
use mathlib.Core.List.{List, [], ◌∷◌, ◌++◌, map, reverse}
use lib.ListN.{length, take, drop, replicate}
use lib.Seq.{take-append_seam}
use denote.Ref.{Bor}
use Rattle.steps.specs.Call.{Answer, Outcome, none, round, count, get_all}
use Rattle.steps.specs.State as S
use Rattle.steps.specs.Step.{short, refusal, settle, over, write, checks, act, step}
use Rattle.steps.specs.Accounting.{is_refused, rounds_in}
use Rattle.steps.specs.Trace.{Kind, Does}
use Rattle.entry_values.specs.declared.EntryValues.{EntryValues}
use Rattle.entry_values.specs.Reader.{filled_part, Fresh, remaining}
use Rattle.entry_values.specs.Mix.{Runs, answers}
use Rattle.entry_values.proofs.Laws.{run_answers, all_next, all_back}

module _ {Map : Type 0} (M : Kind Map) (m : Map) (k n : ℕ) (out out' : List ℕ) (m' : Map) (does : Does M (get_all k out) m (write (count n) out') m') where
  abbrev pub record_of : List ℕ
  record_of = S.rounds k (M.abs m).pairs

  pub filled_record : filled_part n out' ≡ record_of
  unfolding step checks act
  filled_record = go (short out record_of) does.outcome
    where
      -- b says that the slice is short
      go : (b : Bool) → write (count n) out' ≡ (settle (refusal ((b, 3) ∷ [])) (get_all k out) (M.abs m)).0 → filled_part n out' ≡ record_of
      go true o = absurd (true≢false (sym (ap (λ (c : Outcome). is_refused c.answer) o)))
      go false o =
          let number : n ≡ length record_of = ap (λ (c : Outcome). rounds_in c.answer) o in
          let written : out' ≡ over record_of out = ap (λ (c : Outcome). c.slices.out) o in
          rw (number, written) (take-append_seam record_of (drop (length record_of) out))

  module _ (s : Bor (List ℕ)) (e : EntryValues) (holds : s.now ≡ out') (fresh : Fresh s n e) where
    pub whole_record : remaining e ≡ record_of
    whole_record = fresh.all ∙ ap (filled_part n) holds ∙ filled_record

    pub record_mix : {bs : List Bool} {rs : List Answer} {e' : EntryValues} → Runs e bs rs e' → rs ≡ answers bs record_of
    record_mix {bs} run = (run_answers run).0 ∙ ap (answers bs) whole_record

    pub record_forward : {rs : List Answer} {e' : EntryValues} (calls : ℕ) → Runs e (replicate calls false) rs e'
        → rs ≡ map round (take calls record_of) ++ replicate (calls - length record_of) none
    record_forward calls run = record_mix run ∙ all_next calls record_of

    pub record_backward : {rs : List Answer} {e' : EntryValues} (calls : ℕ) → Runs e (replicate calls true) rs e'
        → rs ≡ map round (take calls (reverse record_of)) ++ replicate (calls - length record_of) none
    record_backward calls run = record_mix run ∙ all_back calls record_of
