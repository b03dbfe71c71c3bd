-- A member place that is put into the first empty place of its member's search.
-- Assumes nothing.
use mathlib.Core.Path.{◌≡◌, sym, ◌∙◌, ap}
use mathlib.Core.List.Memᴰ
use mathlib.Core.List.{List, ◌∷◌, Memᴰ}
use mathlib.Core.Logic.{inl, inr, ⊎_elim}
use Prim.Native.Nat.{ℕ, ◌<◌, ◌≤◌}
use native.Mathlib.Omega.{arith}
use lib.ListN.{length, get_or, set, length-set}
use lib.Seq.{get_or-set_same, get_or-set_other}
use Rattle.index.specs.Table.{Holds, Vacant, dist, home}
use Rattle.index.proofs.Cycle.{dist_inj}
use Rattle.index.proofs.Pigeon.{less_or_not, same_or_not}
use Rattle.index.proofs.Search.{home_lt}
use Rattle.index.proofs.Table.{held}

module _ (t keys ks : List ℕ) (p k : ℕ) (h : Holds t keys ks) (room : length ks < 256) (lk : k < 256) (new : Memᴰ k ks → ⊥)
    (apart : (j : ℕ) → Memᴰ j ks → get_or keys j 0 ≡ get_or keys k 0 → ⊥) (v : Vacant t (get_or keys k 0) p) where
  here : get_or (set t p k) p 0 ≡ k
  here = get_or-set_same t p k 0 (rw h.size v.inside)

  there : (q : ℕ) → (q ≡ p → ⊥) → get_or (set t p k) q 0 ≡ get_or t q 0
  there q ne = get_or-set_other t p q k 0 ne

  -- what stood in the index is not what comes in
  fresh : (q : ℕ) → q < 512 → get_or t q 0 ≡ k → ⊥
  fresh q lq e = new (rw e at (held h q lq (rw e lk)))

  old : (q : ℕ) → q < 512 → get_or t q 0 < 256 → q ≡ p → ⊥
  old q lq l e = let g : 256 ≤ get_or t q 0 = rw e v.empty in omega arith

  once' : (a b : ℕ) → a < 512 → b < 512 → get_or (set t p k) a 0 < 256 → get_or (set t p k) a 0 ≡ get_or (set t p k) b 0 → a ≡ b
  once' a b la lb l e =
      ⊎_elim
      (λ (ea : a ≡ p).
      ⊎_elim (λ (eb : b ≡ p). ea ∙ sym eb)
      (λ (nb : b ≡ p → ⊥). absurd (fresh b lb (sym (there b nb) ∙ sym e ∙ rw ea here)))
      (same_or_not b p))
      (λ (na : a ≡ p → ⊥).
      ⊎_elim (λ (eb : b ≡ p). absurd (fresh a la (sym (there a na) ∙ e ∙ rw eb here)))
      (λ (nb : b ≡ p → ⊥). h.once a b la lb (rw (there a na) at l) (sym (there a na) ∙ e ∙ there b nb))
      (same_or_not b p))
      (same_or_not a p)

  reach' : (a b : ℕ) → a < 512 → b < 512 → get_or (set t p k) a 0 < 256
      → dist (home (get_or keys (get_or (set t p k) a 0) 0)) b ≤ dist (home (get_or keys (get_or (set t p k) a 0) 0)) a → get_or (set t p k) b 0 < 256
  reach' a b la lb l d =
      ⊎_elim (λ (eb : b ≡ p). rw (eb, here) lk)
      (λ (nb : b ≡ p → ⊥).
      rw (there b nb)
      (⊎_elim
      (λ (ea : a ≡ p).
      let d' : dist (home (get_or keys k 0)) b ≤ dist (home (get_or keys k 0)) p = rw (ea, here) at d in
      ⊎_elim (λ (d'' : dist (home (get_or keys k 0)) b < dist (home (get_or keys k 0)) p). v.first b lb d'')
      (λ (d'' : dist (home (get_or keys k 0)) p ≤ dist (home (get_or keys k 0)) b).
      absurd (nb (dist_inj (home (get_or keys k 0)) b p (home_lt (get_or keys k 0)) lb v.inside (omega arith))))
      (less_or_not (dist (home (get_or keys k 0)) b) (dist (home (get_or keys k 0)) p)))
      (λ (na : a ≡ p → ⊥). h.reach a b la lb (rw (there a na) at l) (rw (there a na) at d))
      (same_or_not a p)))
      (same_or_not b p)

  pub added : Holds (set t p k) keys (k ∷ ks)
  added =
      record {
        size = length-set t p k ∙ h.size;
        few = room;
        place = λ x m. ⊎_elim (λ e. rw e lk) (λ m'. h.place x m') (Memᴰ.cases_cons m);
        distinct =
            λ x y mx my e.
            ⊎_elim
            (λ (ex : x ≡ k).
            ⊎_elim (λ (ey : y ≡ k). ex ∙ sym ey)
            (λ (my' : Memᴰ y ks). absurd (apart y my' (sym e ∙ ap (λ (z : ℕ). get_or keys z 0) ex)))
            (Memᴰ.cases_cons my))
            (λ (mx' : Memᴰ x ks).
            ⊎_elim (λ (ey : y ≡ k). absurd (apart x mx' (e ∙ ap (λ (z : ℕ). get_or keys z 0) ey)))
            (λ (my' : Memᴰ y ks). h.distinct x y mx' my' e)
            (Memᴰ.cases_cons my))
            (Memᴰ.cases_cons mx);
        has =
            λ x m.
            ⊎_elim (λ (e : x ≡ k). (p, v.inside, here ∙ sym e))
            (λ (m' : Memᴰ x ks).
            let w = h.has x m' in
            (w.0, w.1, there w.0 (old w.0 w.1 (rw w.2 (h.place x m'))) ∙ w.2))
            (Memᴰ.cases_cons m);
        once = once';
        only =
            λ q lq.
            ⊎_elim (λ (e : q ≡ p). inr (Memᴰ.head (rw e here)))
            (λ (ne : q ≡ p → ⊥).
            rw (there q ne) (⊎_elim (λ e. inl e) (λ m. inr (Memᴰ.tail m)) (h.only q lq)))
            (same_or_not q p);
        reach = reach';
      }
