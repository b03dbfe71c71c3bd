-- What one turn of a run does to its place: it stops there, or is past a call. Assumes nothing.
use mathlib.Core.Path.{◌≡◌, refl, ap, sym, ◌∙◌}
use mathlib.Core.Bool.{true, false}
use mathlib.Core.List.{List, [], ◌∷◌}
use Rattle.std.specs.Prelude.{Some, None}
use Prim.Native.Nat.{ℕ, ◌+◌, ◌*◌, ◌-◌, ◌≤◌}
use native.Mathlib.Omega.{arith}
use lib.ListN.{length, take, drop, length-drop}
use Rattle.std.proofs.lemmas.List.{take_all}
use lib.Seq.{drop-drop, length-take-le}
use borrow.Rule.Slice.PartMut.{put_mid}
use Rattle.multimap.specs.WellLinked.{CallsTold, linked}
use Rattle.multimap.specs.declared.ListOrderedMultimap.{ListOrderedMultimap}
use Rattle.steps.specs.Call.{call_of}
use Rattle.replay.specs.Place.{head_of, fits_at, Ready, Past, Within, rest, Same, At, AllRan, Onward, Ended}
use Rattle.replay.specs.declared.Head.{Head}
use Rattle.replay.specs.declared.Place.{Place}
use Rattle.replay.specs.declared.Tape.{Tape}
use Rattle.replay.specs.Tape.{Reached}
use Rattle.replay.proofs.Tapes.{Fits, fits_says, decode_none, head_says}
use Rattle.replay.proofs.Running.{ended_not, length_mid, stops, turn_on}

same_on : {t₀ t t' : Tape} → Same t₀ t → Same t t' → Same t₀ t'
same_on a b =
    record {
      calls = b.calls ∙ a.calls;
      marks = b.marks ∙ a.marks;
      outs = b.outs ∙ a.outs;
      outs2 = b.outs2 ∙ a.outs2;
      answers = b.answers ∙ a.answers;
    }

-- what there is room for from p on, where a call fits
abbrev Room : Place → Head → Tape → Type 0
Room p h t =
    Fits h.op h.n h.n2 h.n3 (length t.outs.now - p.out) (length t.outs2.now - p.out2) (length t.marks.now - p.mark) (length t.answers.now - 4 * p.ran)

pub room_at : (p : Place) (h : Head) (t : Tape) → fits_at p h t ≡ true → Room p h t
room_at p h t f =
    fits_says h.op h.n h.n2 h.n3 (length t.outs.now - p.out) (length t.outs2.now - p.out2) (length t.marks.now - p.mark) (length t.answers.now - 4 * p.ran) f

-- the part of a slice from i on, as it is lent
abbrev ahead : ℕ → List ℕ → List ℕ
ahead i l = take (length l - i) (drop i l)

ahead_is : (i : ℕ) (l : List ℕ) → ahead i l ≡ drop i l
ahead_is i l = take_all (length l - i) (drop i l) (omega (arith, length-drop i l))

module _ (p : Place) (t : Tape) (m : ListOrderedMultimap) where
  stays : rest p t ≡ [] → Ended p t m t m
  stays r = record { none = r; tape_is = refl; map_is = refl }

  pub stops_short : None ≡ head_of (ahead (7 * p.ran) t.calls.now) → Ended p t m t m
  stops_short e =
      stays
      (decode_none (drop (7 * p.ran) t.calls.now) (drop p.out t.outs.now) (drop p.out2 t.outs2.now) (drop p.mark t.marks.now) (length (drop (4 * p.ran) t.answers.now))
      (sym (rw (ahead_is (7 * p.ran) t.calls.now) at e)))

  module _ (h : Head) (is : Some h ≡ head_of (ahead (7 * p.ran) t.calls.now)) where
    numbers : drop (7 * p.ran) t.calls.now ≡ h.op ∷ h.poster ∷ h.k ∷ h.v ∷ h.n ∷ h.n2 ∷ h.n3 ∷ drop ((7 * p.ran) + 7) t.calls.now
    numbers =
        head_says (drop (7 * p.ran) t.calls.now) h (sym (rw (ahead_is (7 * p.ran) t.calls.now) at is))
        ∙ ap (λ (l : List ℕ). h.op ∷ h.poster ∷ h.k ∷ h.v ∷ h.n ∷ h.n2 ∷ h.n3 ∷ l) (drop-drop 7 (7 * p.ran) t.calls.now)

    pub stops_not : fits_at p h t ≡ false → Ended p t m t m
    stops_not f = stays (ended_not t.calls.now t.outs.now t.outs2.now t.marks.now t.answers.now (7 * p.ran) p.out p.out2 p.mark (4 * p.ran) h.op h.poster h.k h.v h.n h.n2 h.n3 (drop ((7 * p.ran) + 7) t.calls.now) numbers f)

    module _ (f : fits_at p h t ≡ true) where
      room : Room p h t
      room = room_at p h t f

      -- n, n2, n3 and b are the lengths of the parts that are lent
      module _ (n n2 n3 b : ℕ) (n_is : n ≡ h.n) (n2_is : n2 ≡ h.n2) (n3_is : n3 ≡ h.n3) (b_is : b ≡ 4) where
        part : length (take n (drop p.out t.outs.now)) ≡ n
        part = length-take-le n (drop p.out t.outs.now) (omega (arith, length-drop p.out t.outs.now, room.n_in))

        part2 : length (take n2 (drop p.out2 t.outs2.now)) ≡ n2
        part2 = length-take-le n2 (drop p.out2 t.outs2.now) (omega (arith, length-drop p.out2 t.outs2.now, room.n2_in))

        part3 : length (take b (drop (4 * p.ran) t.answers.now)) ≡ b
        part3 = length-take-le b (drop (4 * p.ran) t.answers.now) (omega (arith, length-drop (4 * p.ran) t.answers.now, room.space_in))

        pub ready : Ready h.op (take n (drop p.out t.outs.now)) (take n2 (drop p.out2 t.outs2.now)) × (length (take b (drop (4 * p.ran) t.answers.now)) ≡ 4)
        ready = (
          record {
            known = room.op_in;
            no_slice = λ e. part ∙ n_is ∙ room.no_slice e;
            no_second = λ e. part2 ∙ n2_is ∙ room.no_second e;
          },
          part3 ∙ b_is,
        )

        pub goes_on : (q : Place) (t' : Tape) (m' : ListOrderedMultimap) (o o2 k : List ℕ) → Past p h q → Within p t → Same t t'
            → t'.outs.now ≡ put_mid p.out n t.outs.now o → t'.outs2.now ≡ put_mid p.out2 n2 t.outs2.now o2 → t'.answers.now ≡ put_mid (4 * p.ran) b t.answers.now k
            → length o ≡ length (take n (drop p.out t.outs.now)) → length o2 ≡ length (take n2 (drop p.out2 t.outs2.now))
            → length k ≡ length (take b (drop (4 * p.ran) t.answers.now))
            → CallsTold (call_of h.op h.poster h.k h.v (take n (drop p.out t.outs.now)) (take n2 (drop p.out2 t.outs2.now)) (take n3 (drop p.mark t.marks.now))) m m' o o2 k
            → Onward p t m q t' m'
        goes_on q t' m' o o2 k past w s outs_are outs2_are ans_are ol o2l kl told =
            record {
              within = at_end;
              same = s;
              keeps = λ t₀ m₀ v. record { same = same_on v.same s; reached = at_q t₀ m₀ v };
              onward = omega (arith, past.ran);
            }
          where
            calls_long : 7 * p.ran + 7 ≤ length t.calls.now
            calls_long = omega (arith, ap length numbers, length-drop (7 * p.ran) t.calls.now)

            at_end : Within q t'
            at_end =
                record {
                  call = omega (arith, past.ran, ap length s.calls, calls_long);
                  out = omega (arith, past.out, n_is, w.out, room.n_in, ap length outs_are, length_mid t.outs.now o p.out n (omega (arith, n_is, w.out, room.n_in)) (ol ∙ part));
                  out2 = omega (arith, past.out2, n2_is, w.out2, room.n2_in, ap length outs2_are, length_mid t.outs2.now o2 p.out2 n2 (omega (arith, n2_is, w.out2, room.n2_in)) (o2l ∙ part2));
                  mark = omega (arith, past.mark, w.mark, room.n3_in, ap length s.marks);
                  answer = omega (arith, past.ran, w.answer, room.space_in, ap length ans_are, length_mid t.answers.now k (4 * p.ran) b (omega (arith, b_is, w.answer, room.space_in)) (kl ∙ part3));
                }

            call_is : 7 * q.ran ≡ 7 * p.ran + 7
            call_is = omega (arith, past.ran)

            answer_is : 4 * q.ran ≡ 4 * p.ran + 4
            answer_is = omega (arith, past.ran)

            out_is : q.out ≡ p.out + n
            out_is = past.out ∙ ap (λ (x : ℕ). p.out + x) (sym n_is)

            out2_is : q.out2 ≡ p.out2 + n2
            out2_is = past.out2 ∙ ap (λ (x : ℕ). p.out2 + x) (sym n2_is)

            mark_is : q.mark ≡ p.mark + n3
            mark_is = past.mark ∙ ap (λ (x : ℕ). p.mark + x) (sym n3_is)

            at_q : (t₀ : Tape) (m₀ : ListOrderedMultimap) → At t₀ m₀ p t m
                → Reached linked t₀.calls.now t₀.outs.now t₀.outs2.now t₀.marks.now t₀.answers.now m₀ t'.outs.now t'.outs2.now t'.answers.now m' (7 * q.ran) q.out q.out2 q.mark (4 * q.ran) q.ran
            at_q t₀ m₀ v =
                rw (call_is, answer_is, past.ran, out_is, out2_is, mark_is, outs_are, outs2_are, ans_are, b_is, ← v.same.calls, ← v.same.marks)
                (turn_on linked t.calls.now t₀.outs.now t₀.outs2.now t.marks.now t₀.answers.now m₀ t.outs.now t.outs2.now t.answers.now m (7 * p.ran) p.out p.out2 p.mark (4 * p.ran) p.ran
                (rw (← v.same.calls, ← v.same.marks) at v.reached) m' h.op h.poster h.k h.v n n2 n3 o o2 k (rw (n_is, n2_is, n3_is) numbers)
                (rw (n_is, n2_is, n3_is) f) (ol ∙ part) (o2l ∙ part2) (told v.reached.linked))

-- where the list does not go on, the run is at its end
pub all_ran : {t₀ : Tape} {m₀ : ListOrderedMultimap} {p : Place} {t : Tape} {m : ListOrderedMultimap} → At t₀ m₀ p t m → rest p t ≡ [] → AllRan t₀ m₀ t m p.ran
all_ran {t₀} {m₀} {p} {t} {m} v none =
    record {
      same = v.same;
      ran =
          stops linked t₀.calls.now t₀.outs.now t₀.outs2.now t₀.marks.now t₀.answers.now m₀ t.outs.now t.outs2.now t.answers.now m (7 * p.ran) p.out p.out2 p.mark (4 * p.ran) p.ran v.reached
          (rw (← v.same.calls, ← v.same.marks) none);
    }

-- the slices reach as far as the place past a call that fits, and the sums that lead there are numbers of 64 bits
pub record Reach (p : Place) (h : Head) (q : Place) (t : Tape) : Type 0 where
  pub out : (p.out ≤ q.out) × (q.out ≤ length t.outs.now)
  pub out2 : (p.out2 ≤ q.out2) × (q.out2 ≤ length t.outs2.now)
  pub mark : (p.mark ≤ q.mark) × (q.mark ≤ length t.marks.now)
  pub answer : ((4 * p.ran) ≤ (4 * q.ran)) × ((4 * q.ran) ≤ length t.answers.now)

pub reach : {p : Place} {h : Head} {q : Place} {t : Tape} → Within p t
    → fits_at p h t ≡ true → Past p h q
    → Reach p h q t
reach {p} {h} {q} {t} w f past =
    let fit = room_at p h t f in
    record {
      out = omega (arith, w, fit, past);
      out2 = omega (arith, w, fit, past);
      mark = omega (arith, w, fit, past);
      answer = omega (arith, w, fit, past);
    }
