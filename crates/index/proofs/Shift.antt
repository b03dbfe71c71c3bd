-- Closing the gap that a removed member place leaves. While it is closed, the table has one place, the gap, whose content no longer counts.
-- Assumes nothing.
use mathlib.Core.Path.{◌≡◌, refl, sym, ◌∙◌, ap}
use mathlib.Core.List.{List, Memᴰ}
use mathlib.Core.Logic.{◌⊎◌, inl, inr, ⊎_elim}
use Prim.Native.Nat.{ℕ, ◌+◌, ◌%◌, ◌<◌, ◌≤◌}
use native.Mathlib.Omega.{arith}
use lib.ListN.{length, get_or, set, length-set}
use lib.Seq.{get_or-set_same, get_or-set_other}
use Rattle.index.specs.Table.{Holds, dist, home, without}
use Rattle.index.proofs.Cycle.{dist_lt, dist_self, dist_inj, dist_via, dist_next, dist_join}
use Rattle.index.proofs.Pigeon.{less_or_not, same_or_not}
use Rattle.index.proofs.Search.{home_lt}
use Rattle.index.proofs.Table.{spare}
use Rattle.index.proofs.Without.{without_length, without_mem, mem_without}

-- where the search for what stands in the place p starts
abbrev from : List ℕ → List ℕ → ℕ → ℕ
from keys o p = home (get_or keys (get_or o p 0) 0)

-- The table o has its gap at g, and the places up to x, n steps above the first gap a, have been seen to. The member place r was taken out of ks.
-- e is an empty place.
pub record Gap (keys ks : List ℕ) (r a e : ℕ) (o : List ℕ) (g x n : ℕ) : Type 0 where
  pub size : length o ≡ 512
  pub gap_in : g < 512
  pub next_in : x < 512
  pub full : get_or o g 0 < 256
  pub has : (k : ℕ) → Memᴰ k ks → (k ≡ r → ⊥) → (p : ℕ) × (p < 512) × (p ≡ g → ⊥) × (get_or o p 0 ≡ k)
  pub once : (p q : ℕ) → p < 512 → q < 512 → (p ≡ g → ⊥) → (q ≡ g → ⊥) → get_or o p 0 < 256 → get_or o p 0 ≡ get_or o q 0 → p ≡ q
  pub only : (p : ℕ) → p < 512 → (p ≡ g → ⊥) → (get_or o p 0 ≡ 65535) ⊎ (Memᴰ (get_or o p 0) ks × (get_or o p 0 ≡ r → ⊥))
  pub reach : (p q : ℕ) → p < 512 → q < 512 → (p ≡ g → ⊥) → get_or o p 0 < 256
      → dist (from keys o p) q ≤ dist (from keys o p) p → get_or o q 0 < 256
  -- whoever's search passes the gap stands at x or above
  pub behind : (p : ℕ) → p < 512 → (p ≡ g → ⊥) → get_or o p 0 < 256 → dist (from keys o p) g < dist (from keys o p) p → dist g x ≤ dist g p
  pub steps : dist a x ≡ n
  pub order : dist a g < n
  pub room : 256 ≤ get_or o e 0
  pub ahead : n ≤ dist a e

-- a place one step farther than another that is not it
nearer : (a p q : ℕ) → a < 512 → p < 512 → q < 512 → (p ≡ q → ⊥) → dist a p ≤ dist a q → dist a p < dist a q
nearer a p q la lp lq ne d =
    ⊎_elim (λ (l : dist a p < dist a q). l) (λ (l : dist a q ≤ dist a p). absurd (ne (dist_inj a p q la lp lq (omega arith))))
    (less_or_not (dist a p) (dist a q))

one_up : (a p : ℕ) → a < 512 → p < 512 → (a ≡ p → ⊥) → dist a ((a + 1) % 512) ≡ 1
one_up a p la lp ne =
    let z = dist_self a la in
    let l = nearer a a p la la lp ne (omega arith) in
    dist_next a a p la la lp l ∙ rw z refl

one_far : (a p : ℕ) → a < 512 → p < 512 → (a ≡ p → ⊥) → 1 ≤ dist a p
one_far a p la lp ne =
    let z = dist_self a la in
    let l = nearer a a p la la lp ne (omega arith) in
    omega arith

module _ (t keys ks : List ℕ) (a : ℕ) (h : Holds t keys ks) (la : a < 512) (occ : get_or t a 0 < 256) where
  differs : (e : ℕ) → 256 ≤ get_or t e 0 → a ≡ e → ⊥
  differs e emp q = let z : 256 ≤ get_or t a 0 = rw q emp in omega arith

  pub opened : Gap keys ks (get_or t a 0) a (spare h).0 t a ((a + 1) % 512) 1
  opened =
      let e = spare h in
      let ne = differs e.0 e.2 in
      let up = one_up a e.0 la e.1 ne in
      record {
        size = h.size;
        gap_in = la;
        next_in = omega arith;
        full = occ;
        has = λ k m nk. let w = h.has k m in (w.0, w.1, λ q. nk (sym w.2 ∙ rw q refl), w.2);
        once = λ p q lp lq np nq. h.once p q lp lq;
        only =
            λ p lp np.
            ⊎_elim (λ z. inl z) (λ m. inr (m, λ q. np (h.once p a lp la (h.place _ m) q))) (h.only p lp);
        reach = λ p q lp lq np. h.reach p q lp lq;
        behind = λ p lp np l d. let far = one_far a p la lp (λ q. np (sym q)) in rw up far;
        steps = up;
        order = let z = dist_self a la in omega arith;
        room = e.2;
        ahead = one_far a e.0 la e.1 ne;
      }

module _ (keys ks : List ℕ) (r a e : ℕ) (la : a < 512) (le : e < 512) (o : List ℕ) (g x n : ℕ) (s : Gap keys ks r a e o g x n) where
  apart : x ≡ g → ⊥
  apart q = let z : dist a x ≡ dist a g = ap (λ (y : ℕ). dist a y) q in omega (arith, s.steps, s.order)

  -- where the next place is not empty, there is still an empty place ahead
  farther : get_or o x 0 < 256 → n < dist a e
  farther l =
      let ne : x ≡ e → ⊥ = λ q. let z : 256 ≤ get_or o x 0 = rw q s.room in omega arith in
      let d = nearer a x e la s.next_in le ne (omega (arith, s.steps, s.ahead)) in
      omega (arith, s.steps)

  on : get_or o x 0 < 256 → dist a ((x + 1) % 512) ≡ n + 1
  on l =
      dist_next a x e la s.next_in le (omega (arith, s.steps, farther l)) ∙ ap (λ (y : ℕ). y + 1) s.steps

  pub skipped : get_or o x 0 < 256 → dist (from keys o x) x ≤ dist (from keys o x) g → Gap keys ks r a e o g ((x + 1) % 512) (n + 1)
  skipped l stays =
      record {
        size = s.size;
        gap_in = s.gap_in;
        next_in = omega arith;
        full = s.full;
        has = s.has;
        once = s.once;
        only = s.only;
        reach = s.reach;
        behind =
            λ p lp np lo d.
            let far = s.behind p lp np lo d in
            let ne : x ≡ p → ⊥ = λ q. let z : dist (from keys o x) g < dist (from keys o x) x = rw q d in omega arith in
            let nr = nearer g x p s.gap_in s.next_in lp ne far in
            rw (dist_next g x p s.gap_in s.next_in lp nr) (omega arith);
        steps = on l;
        order = omega (arith, s.order);
        room = s.room;
        ahead = omega (arith, farther l);
      }

  -- the member place at x moves down into the gap, and x is the gap
  module _ (l : get_or o x 0 < 256) (moves : dist (from keys o x) g < dist (from keys o x) x) where
    here : get_or (set o g (get_or o x 0)) g 0 ≡ get_or o x 0
    here = get_or-set_same o g (get_or o x 0) 0 (rw s.size s.gap_in)

    there : (q : ℕ) → (q ≡ g → ⊥) → get_or (set o g (get_or o x 0)) q 0 ≡ get_or o q 0
    there q ne = get_or-set_other o g q (get_or o x 0) 0 ne

    once' : (p q : ℕ) → p < 512 → q < 512 → (p ≡ x → ⊥) → (q ≡ x → ⊥) → get_or (set o g (get_or o x 0)) p 0 < 256
        → get_or (set o g (get_or o x 0)) p 0 ≡ get_or (set o g (get_or o x 0)) q 0 → p ≡ q
    once' p q lp lq np nq lo eq =
        ⊎_elim
        (λ (ep : p ≡ g).
        ⊎_elim (λ (eq' : q ≡ g). ep ∙ sym eq')
        (λ (ng : q ≡ g → ⊥).
        absurd (nq (sym (s.once x q s.next_in lq apart ng l (sym (rw ep here) ∙ eq ∙ there q ng)))))
        (same_or_not q g))
        (λ (mp : p ≡ g → ⊥).
        ⊎_elim
        (λ (eq' : q ≡ g).
        absurd (np (s.once p x lp s.next_in mp apart (rw (there p mp) at lo) (sym (there p mp) ∙ eq ∙ rw eq' here))))
        (λ (ng : q ≡ g → ⊥). s.once p q lp lq mp ng (rw (there p mp) at lo) (sym (there p mp) ∙ eq ∙ there q ng))
        (same_or_not q g))
        (same_or_not p g)

    reach' : (p q : ℕ) → p < 512 → q < 512 → (p ≡ x → ⊥) → get_or (set o g (get_or o x 0)) p 0 < 256
        → dist (from keys (set o g (get_or o x 0)) p) q ≤ dist (from keys (set o g (get_or o x 0)) p) p → get_or (set o g (get_or o x 0)) q 0 < 256
    reach' p q lp lq np lo d =
        ⊎_elim (λ (e' : q ≡ g). rw (e', here) l)
        (λ (ng : q ≡ g → ⊥).
        rw (there q ng)
        (⊎_elim
        (λ (ep : p ≡ g).
        let d' : dist (from keys o x) q ≤ dist (from keys o x) g = rw (ep, here) at d in
        s.reach x q s.next_in lq apart l (omega arith))
        (λ (mp : p ≡ g → ⊥). s.reach p q lp lq mp (rw (there p mp) at lo) (rw (there p mp) at d))
        (same_or_not p g)))
        (same_or_not q g)

    pub moved : Gap keys ks r a e (set o g (get_or o x 0)) x ((x + 1) % 512) (n + 1)
    moved =
        record {
          size = length-set o g (get_or o x 0) ∙ s.size;
          gap_in = s.next_in;
          next_in = omega arith;
          full = rw (there x apart) l;
          has =
              λ k m nk.
              let w = s.has k m nk in
              ⊎_elim (λ (q : w.0 ≡ x). (g, s.gap_in, λ (z : g ≡ x). apart (sym z), here ∙ sym (ap (λ (y : ℕ). get_or o y 0) q) ∙ w.3))
              (λ (nx : w.0 ≡ x → ⊥). (w.0, w.1, nx, there w.0 w.2 ∙ w.3))
              (same_or_not w.0 x);
          once = once';
          only =
              λ p lp np.
              ⊎_elim (λ (q : p ≡ g). rw (q, here) (s.only x s.next_in apart))
              (λ (mp : p ≡ g → ⊥). rw (there p mp) (s.only p lp mp))
              (same_or_not p g);
          reach = reach';
          behind =
              λ p lp np lo d.
              let nx : x ≡ p → ⊥ = λ q. np (sym q) in
              let far = one_far x p s.next_in lp nx in
              rw (one_up x p s.next_in lp nx) far;
          steps = on l;
          order = omega (arith, s.steps);
          room =
              rw (there e (λ q. let z : get_or o e 0 < 256 = rw q s.full in omega (arith, s.room))) s.room;
          ahead = omega (arith, farther l);
        }

  -- at an empty place the gap can be emptied: nobody's search passes it
  module _ (few : length ks ≤ 256) (place : (k : ℕ) → Memᴰ k ks → k < 256)
      (distinct : (j k : ℕ) → Memᴰ j ks → Memᴰ k ks → get_or keys j 0 ≡ get_or keys k 0 → j ≡ k) (stop : 256 ≤ get_or o x 0) where
    gone : get_or (set o g 65535) g 0 ≡ 65535
    gone = get_or-set_same o g 65535 0 (rw s.size s.gap_in)

    stays : (q : ℕ) → (q ≡ g → ⊥) → get_or (set o g 65535) q 0 ≡ get_or o q 0
    stays q ne = get_or-set_other o g q 65535 0 ne

    off : (p : ℕ) → get_or (set o g 65535) p 0 < 256 → p ≡ g → ⊥
    off p lo q = let z : get_or (set o g 65535) p 0 ≡ 65535 = rw q gone in omega arith

    -- the gap lies on nobody's way
    clear : (p : ℕ) → p < 512 → (p ≡ g → ⊥) → get_or o p 0 < 256 → dist (from keys o p) g ≤ dist (from keys o p) p → ⊥
    clear p lp np lo d =
        let f = from keys o p in
        let lf : from keys o p < 512 = home_lt (get_or keys (get_or o p 0) 0) in
        let d1 = nearer (from keys o p) g p lf s.gap_in lp (λ q. np (sym q)) d in
        let nx : x ≡ p → ⊥ = λ q. let z : get_or o x 0 < 256 = rw q lo in omega arith in
        let d2 = nearer g x p s.gap_in s.next_in lp nx (s.behind p lp np lo d1) in
        let via = dist_via (from keys o p) g p lf s.gap_in lp d in
        let join = dist_join (from keys o p) g x lf s.gap_in s.next_in (omega (arith, dist_lt (from keys o p) p)) in
        let z = s.reach p x lp s.next_in np lo (omega arith) in
        omega arith

    pub closed : Holds (set o g 65535) keys (without r ks)
    closed =
        record {
          size = length-set o g 65535 ∙ s.size;
          few = omega (arith, without_length r ks);
          place = λ k m. place k (without_mem r ks k m).0;
          distinct = λ j k mj mk e. distinct j k (without_mem r ks j mj).0 (without_mem r ks k mk).0 e;
          has =
              λ k m.
              let m' = without_mem r ks k m in
              let w = s.has k m'.0 m'.1 in
              (w.0, w.1, stays w.0 w.2 ∙ w.3);
          once =
              λ p q lp lq lo eq.
              let np = off p lo in
              let nq = off q (rw eq at lo) in
              s.once p q lp lq np nq (rw (stays p np) at lo) (sym (stays p np) ∙ eq ∙ stays q nq);
          only =
              λ p lp.
              ⊎_elim (λ (q : p ≡ g). inl (rw q gone))
              (λ (np : p ≡ g → ⊥).
              rw (stays p np)
              (⊎_elim (λ z. inl z) (λ m. inr (mem_without r ks (get_or o p 0) m.0 m.1)) (s.only p lp np)))
              (same_or_not p g);
          reach =
              λ p q lp lq lo d.
              let np = off p lo in
              let lo' = rw (stays p np) at lo in
              let d' = rw (stays p np) at d in
              ⊎_elim (λ (z : q ≡ g). absurd (clear p lp np lo' (rw z at d')))
              (λ (nq : q ≡ g → ⊥). rw (stays q nq) (s.reach p q lp lq np lo' d'))
              (same_or_not q g);
        }
