-- The search in an index that holds a list of member places finds what it should.
-- Assumes nothing.
use mathlib.Core.Path.{◌≡◌, refl, sym, ◌∙◌, ap, subst}
use mathlib.Core.List.{List, Memᴰ}
use mathlib.Core.Logic.{⊎_elim}
use Prim.Native.Nat.{ℕ, zero, suc, ◌+◌, ◌%◌, ◌<◌, ◌≤◌}
use native.Mathlib.Omega.{arith}
use lib.ListN.{get_or}
use Rattle.index.specs.declared.Found.{Found}
use Rattle.index.specs.declared.Found.TheVariants.{At, Absent}
use Rattle.index.specs.Table.{Holds, Vacant, dist, home}
use Rattle.index.specs.Search.{look, search as searched, Says, place_of}
use Rattle.index.proofs.Cycle.{dist_lt, dist_self, dist_inj, dist_next}
use Rattle.index.proofs.Pigeon.{less_or_not, same_or_not}
use Rattle.index.proofs.Search.{home_lt, look_none, look_empty, look_hit, look_on}
use Rattle.index.proofs.Table.{held, spare}

module _ (t keys ks : List ℕ) (m : ℕ) (h : Holds t keys ks) where
  -- the places nearer to the start than n are not empty and hold other members
  abbrev Passed : ℕ → Type 0
  Passed n = (q : ℕ) → q < 512 → dist (home m) q < n → (get_or t q 0 < 256) × (get_or keys (get_or t q 0) 0 ≡ m → ⊥)

  pass : (p n : ℕ) → p < 512 → dist (home m) p ≡ n → get_or t p 0 < 256 → (get_or keys (get_or t p 0) 0 ≡ m → ⊥) → Passed n → Passed (n + 1)
  pass p n lp en l ne before q lq d =
      ⊎_elim (λ (d' : dist (home m) q < n). before q lq d')
      (λ (d' : n ≤ dist (home m) q).
      let e : q ≡ p = dist_inj (home m) q p (home_lt m) lq lp (omega arith) in
      rw e (l, ne))
      (less_or_not (dist (home m) q) n)

  -- no member is missed at an empty place
  none : (p n : ℕ) → p < 512 → dist (home m) p ≡ n → 256 ≤ get_or t p 0 → Passed n → (k : ℕ) → Memᴰ k ks → get_or keys k 0 ≡ m → ⊥
  none p n lp en emp before k mk ek =
      let w = h.has k mk in
      let ew : get_or keys (get_or t w.0 0) 0 ≡ m = ap (λ (x : ℕ). get_or keys x 0) w.2 ∙ ek in
      ⊎_elim (λ (d : dist (home m) w.0 < n). (before w.0 w.1 d).1 ew)
      (λ (d : n ≤ dist (home m) w.0).
      let r : get_or t p 0 < 256 =
      h.reach w.0 p w.1 lp (rw w.2 (h.place k mk)) (rw ew (omega arith))
      in
      omega arith)
      (less_or_not (dist (home m) w.0) n)

  -- there is an empty place still ahead, so the next place is one step farther
  ahead : (p n : ℕ) → p < 512 → dist (home m) p ≡ n → Passed (n + 1) → dist (home m) ((p + 1) % 512) ≡ n + 1
  ahead p n lp en passed =
      let e = spare h in
      ⊎_elim (λ (d : dist (home m) e.0 < n + 1). let l = (passed e.0 e.1 d).0 in absurd (omega (arith, e.2)))
      (λ (d : n + 1 ≤ dist (home m) e.0). dist_next (home m) p e.0 (home_lt m) lp e.1 (omega arith) ∙ ap (λ (x : ℕ). x + 1) en)
      (less_or_not (dist (home m) e.0) (n + 1))

  hit : (p n : ℕ) → p < 512 → dist (home m) p ≡ n → get_or t p 0 < 256 → get_or keys (get_or t p 0) 0 ≡ m → Says t keys ks m (At p (get_or t p 0) (n + 1))
  unfolding Says
  hit p n lp en l e = (lp, refl, held h p lp l, e, ap (λ (x : ℕ). x + 1) (sym en))

  miss : (p n : ℕ) → p < 512 → dist (home m) p ≡ n → 256 ≤ get_or t p 0 → Passed n → Says t keys ks m (Absent p (n + 1))
  unfolding Says
  miss p n lp en emp before = (
    record { inside = lp; empty = emp; first = λ q lq d. (before q lq (omega arith)).0 },
    none p n lp en emp before,
    ap (λ (x : ℕ). x + 1) (sym en),
  )

  go : (f p n : ℕ) → f + n ≡ 512 → p < 512 → dist (home m) p ≡ n → Passed n → Says t keys ks m (look f t keys m p n)
  go zero p n ef lp en before = absurd (omega (arith, dist_lt (home m) p))
  go (suc f) p n ef lp en before =
      ⊎_elim
      (λ (l : get_or t p 0 < 256).
      ⊎_elim (λ (e : get_or keys (get_or t p 0) 0 ≡ m). rw (look_hit t keys m p n (suc f) f refl l e) (hit p n lp en l e))
      (λ (ne : get_or keys (get_or t p 0) 0 ≡ m → ⊥).
      let passed = pass p n lp en l ne before in
      rw (look_on t keys m p n (suc f) f refl l ne)
      (go f ((p + 1) % 512) (n + 1) (omega arith) (omega arith) (ahead p n lp en passed) passed))
      (same_or_not (get_or keys (get_or t p 0) 0) m))
      (λ (emp : 256 ≤ get_or t p 0). rw (look_empty t keys m p n (suc f) f refl emp) (miss p n lp en emp before))
      (less_or_not (get_or t p 0) 256)

  -- what the search says is so
  pub says : Says t keys ks m (searched t keys m)
  unfolding searched
  says = go 512 (home m) 0 refl (home_lt m) (dist_self (home m) (home_lt m)) (λ q lq d. absurd (omega arith))

  -- the same, for a caller that knows which answer it is
  pub says_at : (p n k : ℕ) → searched t keys m ≡ At p k n
      → (p < 512) × (get_or t p 0 ≡ k) × Memᴰ k ks × (get_or keys k 0 ≡ m) × (n ≡ dist (home m) p + 1)
  unfolding Says
  says_at p n k e = subst (Says t keys ks m) e says

  pub says_absent : (p n : ℕ) → searched t keys m ≡ Absent p n
      → Vacant t m p × ((k : ℕ) → Memᴰ k ks → get_or keys k 0 ≡ m → ⊥) × (n ≡ dist (home m) p + 1)
  unfolding Says
  says_absent p n e = subst (Says t keys ks m) e says

-- in any table at all the search ends in a place of it
module _ (t keys : List ℕ) (m : ℕ) where
  ends : (f p n : ℕ) → p < 512 → place_of (look f t keys m p n) < 512
  unfolding place_of
  ends zero p n lp = rw (look_none t keys m p n 0 refl) lp
  ends (suc f) p n lp =
      ⊎_elim
      (λ (l : get_or t p 0 < 256).
      ⊎_elim (λ (e : get_or keys (get_or t p 0) 0 ≡ m). rw (look_hit t keys m p n (suc f) f refl l e) lp)
      (λ (ne : get_or keys (get_or t p 0) 0 ≡ m → ⊥). rw (look_on t keys m p n (suc f) f refl l ne) (ends f ((p + 1) % 512) (n + 1) (omega arith)))
      (same_or_not (get_or keys (get_or t p 0) 0) m))
      (λ (emp : 256 ≤ get_or t p 0). rw (look_empty t keys m p n (suc f) f refl emp) lp)
      (less_or_not (get_or t p 0) 256)

  ended : place_of (searched t keys m) < 512
  unfolding searched
  ended = ends 512 (home m) 0 (home_lt m)

  pub inside_at : (p n k : ℕ) → searched t keys m ≡ At p k n → p < 512
  unfolding place_of
  inside_at p n k e = subst (λ (r : Found). place_of r < 512) e ended
