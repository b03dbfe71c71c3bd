-- The invariant of a loop that runs a list of calls in slices, over any kind of map: whatever the rest comes to stands behind what is done.
-- Assumes nothing.
use mathlib.Core.Path.{◌≡◌, refl, ap, sym, subst, subst₃, ◌∙◌}
use mathlib.Core.Bool.{true, false}
use mathlib.Core.List.{List, [], ◌∷◌, ◌++◌, append_assoc}
use Prim.Native.Nat.{ℕ, suc, ◌+◌, ◌-◌, ◌≤◌}
use native.Mathlib.Nat.{add-zero, zero-add}
use native.Mathlib.Omega.{arith}
use lib.ListN.{length, take, drop, take-append-drop, length-append, length-drop}
use lib.Seq.{drop-drop, take_at, drop_at, length-take-le}
use borrow.Rule.Slice.PartMut.{put_mid, same_len_mid}
use Rattle.steps.specs.Trace.{Kind}
use Rattle.steps.specs.Told.{Told}
use Rattle.steps.specs.Call.{call_of}
use Rattle.replay.specs.Tape.{fits, decode, Ran, Reached}
use Rattle.steps.proofs.Coded.{coded_length}
use Rattle.replay.proofs.Tapes.{decode_not, Fits, fits_says, ran_ended, ran_call}

-- a part of xs from a on, of k elements, with ys put there
module _ (xs ys : List ℕ) (a k : ℕ) (h : a + k ≤ length xs) (e : length ys ≡ k) where
  head_length : length (take a xs ++ ys) ≡ a + k
  head_length = omega (arith, length-append (take a xs) ys, length-take-le a xs (omega arith))

  take_mid : take (a + k) (put_mid a k xs ys) ≡ take a xs ++ ys
  take_mid = ap (take (a + k)) (sym (append_assoc (take a xs) ys (drop k (drop a xs)))) ∙ take_at (take a xs ++ ys) (drop k (drop a xs)) (a + k) head_length

  drop_mid : drop (a + k) (put_mid a k xs ys) ≡ drop k (drop a xs)
  drop_mid = ap (drop (a + k)) (sym (append_assoc (take a xs) ys (drop k (drop a xs)))) ∙ drop_at (take a xs ++ ys) (drop k (drop a xs)) (a + k) head_length

  pub length_mid : length (put_mid a k xs ys) ≡ length xs
  length_mid = same_len_mid a k xs ys (e ∙ sym (length-take-le k (drop a xs) (omega (arith, length-drop a xs))))

-- the list does not go on with the call whose numbers come next
pub ended_not : (calls outs outs2 marks ans : List ℕ) (i at at2 at3 a : ℕ) (op poster key value n n2 n3 : ℕ) (l : List ℕ) → drop i calls ≡ op ∷ poster ∷ key ∷ value ∷ n ∷ n2 ∷ n3 ∷ l
    → fits op n n2 n3 (length outs - at) (length outs2 - at2) (length marks - at3) (length ans - a) ≡ false
    → decode (drop i calls) (drop at outs) (drop at2 outs2) (drop at3 marks) (length (drop a ans)) ≡ []
ended_not calls outs outs2 marks ans i at at2 at3 a op poster key value n n2 n3 l e f =
    rw e
    (decode_not op poster key value n n2 n3 l (drop at outs) (drop at2 outs2) (drop at3 marks) (length (drop a ans))
    (rw (length-drop at outs, length-drop at2 outs2, length-drop at3 marks, length-drop a ans) f))

module _ {Map : Type 0} (M : Kind Map) where
  pub begins : (calls outs outs2 marks ans : List ℕ) (m : Map) → M.Linked m → Reached M calls outs outs2 marks ans m outs outs2 ans m 0 0 0 0 0 0
  begins calls outs outs2 marks ans m l =
      record {
        i_in = omega arith;
        at_in = omega arith;
        at2_in = omega arith;
        at3_in = omega arith;
        a_in = omega arith;
        outs_len = refl;
        outs2_len = refl;
        ans_len = refl;
        linked = l;
        left = λ o o2 b m n r. rw (zero-add n) r;
      }

  -- the run is at its end
  pub stops : (calls outs₀ outs2₀ marks ans₀ : List ℕ) (m₀ : Map) (outs outs2 ans : List ℕ) (held : Map) (i at at2 at3 a ran : ℕ)
      → Reached M calls outs₀ outs2₀ marks ans₀ m₀ outs outs2 ans held i at at2 at3 a ran
      → decode (drop i calls) (drop at outs) (drop at2 outs2) (drop at3 marks) (length (drop a ans)) ≡ [] → Ran M calls outs₀ outs2₀ marks ans₀ m₀ outs outs2 ans held ran
  stops calls outs₀ outs2₀ marks ans₀ m₀ outs outs2 ans held i at at2 at3 a ran v e =
      subst₃ (λ (x y z : List ℕ). Ran M calls outs₀ outs2₀ marks ans₀ m₀ x y z held ran) (take-append-drop at outs) (take-append-drop at2 outs2) (take-append-drop a ans)
      (subst (λ (n : ℕ). Ran M calls outs₀ outs2₀ marks ans₀ m₀ (take at outs ++ drop at outs) (take at2 outs2 ++ drop at2 outs2) (take a ans ++ drop a ans) held n) (add-zero ran)
      (v.left (drop at outs) (drop at2 outs2) (drop a ans) held 0 (ran_ended M (drop i calls) (drop at outs) (drop at2 outs2) (drop at3 marks) (drop a ans) held e)))

  module _ (calls outs₀ outs2₀ marks ans₀ : List ℕ) (m₀ : Map) (outs outs2 ans : List ℕ) (held : Map) (i at at2 at3 a ran : ℕ)
      (v : Reached M calls outs₀ outs2₀ marks ans₀ m₀ outs outs2 ans held i at at2 at3 a ran) where
    -- one call more: n, n2 and n3 are the lengths of its slices, o, o2 and k what its slices and its answer now hold
    module _ (held' : Map) (op poster key value n n2 n3 : ℕ) (o o2 k : List ℕ)
        (e : drop i calls ≡ op ∷ poster ∷ key ∷ value ∷ n ∷ n2 ∷ n3 ∷ drop (i + 7) calls)
        (f : fits op n n2 n3 (length outs - at) (length outs2 - at2) (length marks - at3) (length ans - a) ≡ true)
        (o_len : length o ≡ n) (o2_len : length o2 ≡ n2)
        (t : Told M (call_of op poster key value (take n (drop at outs)) (take n2 (drop at2 outs2)) (take n3 (drop at3 marks))) held held' o o2 k) where
      g : Fits op n n2 n3 (length outs - at) (length outs2 - at2) (length marks - at3) (length ans - a)
      g = fits_says op n n2 n3 (length outs - at) (length outs2 - at2) (length marks - at3) (length ans - a) f

      calls_in : i + 7 ≤ length calls
      calls_in = omega (arith, ap length e, length-drop i calls, v.i_in)

      k_len : length k ≡ 4
      k_len = ap length t.ans_is ∙ coded_length t.outcome.answer

      outs_in : at + n ≤ length outs
      outs_in = omega (arith, g.n_in, v.at_in)

      outs2_in : at2 + n2 ≤ length outs2
      outs2_in = omega (arith, g.n2_in, v.at2_in)

      marks_in : at3 + n3 ≤ length marks
      marks_in = omega (arith, g.n3_in, v.at3_in)

      ans_in : a + 4 ≤ length ans
      ans_in = omega (arith, g.space_in, v.a_in)

      goes : (x y z : List ℕ) (m : Map) (r : ℕ) → Ran M (drop (i + 7) calls) (drop n (drop at outs)) (drop n2 (drop at2 outs2)) (drop n3 (drop at3 marks)) (drop 4 (drop a ans)) held' x y z m r
          → Ran M (drop i calls) (drop at outs) (drop at2 outs2) (drop at3 marks) (drop a ans) held (o ++ x) (o2 ++ y) (k ++ z) m (suc r)
      goes x y z m s r =
          rw e
          (ran_call M op poster key value n n2 n3 (drop (i + 7) calls) (drop at outs) (drop at2 outs2) (drop at3 marks) (drop a ans) held held' m o o2 k x y z s
          (rw (length-drop at outs, length-drop at2 outs2, length-drop at3 marks, length-drop a ans) f) o_len o2_len t r)

      one_on : (s : ℕ) → ran + 1 + s ≡ ran + suc s
      one_on s = omega arith

      on : (x y z : List ℕ) (m : Map) (r : ℕ) → Ran M (drop (i + 7) calls) (drop n (drop at outs)) (drop n2 (drop at2 outs2)) (drop (at3 + n3) marks) (drop 4 (drop a ans)) held' x y z m r
          → Ran M calls outs₀ outs2₀ marks ans₀ m₀ ((take at outs ++ o) ++ x) ((take at2 outs2 ++ o2) ++ y) ((take a ans ++ k) ++ z) m (ran + 1 + r)
      on x y z m s r =
          rw (append_assoc (take at outs) o x, append_assoc (take at2 outs2) o2 y, append_assoc (take a ans) k z, one_on s)
          (v.left (o ++ x) (o2 ++ y) (k ++ z) m (suc s) (goes x y z m s (rw (drop-drop n3 at3 marks) r)))

      pub turn_on : Reached M calls outs₀ outs2₀ marks ans₀ m₀ (put_mid at n outs o) (put_mid at2 n2 outs2 o2) (put_mid a 4 ans k) held' (i + 7) (at + n) (at2 + n2) (at3 + n3) (a + 4) (ran + 1)
      turn_on =
          record {
            i_in = calls_in;
            at_in = omega (arith, length_mid outs o at n outs_in o_len, outs_in);
            at2_in = omega (arith, length_mid outs2 o2 at2 n2 outs2_in o2_len, outs2_in);
            at3_in = marks_in;
            a_in = omega (arith, length_mid ans k a 4 ans_in k_len, ans_in);
            outs_len = length_mid outs o at n outs_in o_len ∙ v.outs_len;
            outs2_len = length_mid outs2 o2 at2 n2 outs2_in o2_len ∙ v.outs2_len;
            ans_len = length_mid ans k a 4 ans_in k_len ∙ v.ans_len;
            linked = t.does.linked;
            left =
                rw (take_mid outs o at n outs_in o_len, drop_mid outs o at n outs_in o_len, take_mid outs2 o2 at2 n2 outs2_in o2_len, drop_mid outs2 o2 at2 n2 outs2_in o2_len, take_mid ans k a 4 ans_in k_len, drop_mid ans k a 4 ans_in k_len) on;
          }
