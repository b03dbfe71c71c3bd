-- An index agrees with the member places in use exactly if each place and each member place does.
-- Assumes nothing.
use mathlib.Core.Path.{◌≡◌, refl, sym, ◌∙◌, ap, subst}
use mathlib.Core.Bool.{Bool, true, false}
use mathlib.Core.List.{List, Memᴰ}
use mathlib.Core.Logic.{◌⊎◌, inl, inr, ⊎_elim}
use Prim.Native.Nat.{ℕ, zero, suc, ◌+◌, ◌%◌, ◌<◌, ◌≤◌}
use native.Mathlib.Omega.{arith}
use lib.Dec.{T}
use lib.ListN.{length, get_or}
use Rattle.index.specs.declared.Found.{Found}
use Rattle.index.specs.declared.Found.TheVariants.{At, Absent}
use Rattle.index.specs.Table.{Holds, dist, home}
use Rattle.index.specs.Search.{look, search as searched}
use Rattle.index.specs.Agree.{Decides, FoundIn, FoundKey, PlaceOk, KeyOk, Lists}
use Rattle.index.proofs.Cycle.{dist_inj, dist_walk}
use Rattle.index.proofs.Pigeon.{less_or_not, same_or_not}
use Rattle.index.proofs.Search.{home_lt, look_none, look_empty, look_hit, look_on}
use Rattle.index.proofs.Finds.{says_at, says_absent}

pub true_false : {b : Bool} → b ≡ true → b ≡ false → ⊥
true_false {b} e f = let z : true ≡ false = sym e ∙ f in absurd (subst (λ (c : Bool). T c) z tt)

pub decides_map : (b : Bool) {P Q : Type 0} → (P → Q) → (Q → P) → Decides b P → Decides b Q
decides_map true to of d = to d
decides_map false to of d = λ q. d (of q)

pub if_true : (b : Bool) {P : Type 0} → b ≡ true → Decides b P → P
if_true b {P} e d = subst (λ (c : Bool). Decides c P) e d

pub if_false : (b : Bool) {P : Type 0} → b ≡ false → Decides b P → P → ⊥
if_false b {P} e d = subst (λ (c : Bool). Decides c P) e d

-- What an answer At says of any table: the place is not empty and holds the member, and no place before it is empty.
pub record Reached (t keys : List ℕ) (m p k : ℕ) : Type 0 where
  pub inside : p < 512
  pub full : get_or t p 0 < 256
  pub key : get_or t p 0 ≡ k
  pub member : get_or keys (get_or t p 0) 0 ≡ m
  pub before : (q : ℕ) → q < 512 → dist (home m) q < dist (home m) p → get_or t q 0 < 256

abbrev IfAt : List ℕ → List ℕ → ℕ → Found → Type 0
IfAt t keys m (At p k n) = Reached t keys m p k
IfAt t keys m (Absent p n) = Unit {0}

module _ (t keys : List ℕ) (m : ℕ) where
  go : (f p n : ℕ) → f + n ≡ 512 → p ≡ (home m + n) % 512 → ((q : ℕ) → q < 512 → dist (home m) q < n → get_or t q 0 < 256)
      → IfAt t keys m (look f t keys m p n)
  go zero p n ef ep passed = rw (look_none t keys m p n 0 refl) tt
  go (suc f) p n ef ep passed =
      let lp : p < 512 = omega arith in
      let en : dist (home m) p ≡ n = rw ep (dist_walk (home m) n (home_lt m) (omega arith)) in
      ⊎_elim
      (λ (l : get_or t p 0 < 256).
      ⊎_elim
      (λ (e : get_or keys (get_or t p 0) 0 ≡ m).
      rw (look_hit t keys m p n (suc f) f refl l e)
      (record { inside = lp; full = l; key = refl; member = e; before = λ q lq d. passed q lq (omega arith) }))
      (λ (ne : get_or keys (get_or t p 0) 0 ≡ m → ⊥).
      rw (look_on t keys m p n (suc f) f refl l ne)
      (go f ((p + 1) % 512) (n + 1) (omega arith) (omega arith)
      (λ q lq d.
      ⊎_elim (λ (d' : dist (home m) q < n). passed q lq d')
      (λ (d' : n ≤ dist (home m) q). rw (dist_inj (home m) q p (home_lt m) lq lp (omega arith)) l)
      (less_or_not (dist (home m) q) n))))
      (same_or_not (get_or keys (get_or t p 0) 0) m))
      (λ (emp : 256 ≤ get_or t p 0). rw (look_empty t keys m p n (suc f) f refl emp) tt)
      (less_or_not (get_or t p 0) 256)

  any : IfAt t keys m (searched t keys m)
  unfolding searched
  any = go 512 (home m) 0 refl (let l = home_lt m in omega arith) (λ q lq d. absurd (omega arith))

  pub reached : (p n k : ℕ) → searched t keys m ≡ At p k n → Reached t keys m p k
  reached p n k e = subst (IfAt t keys m) e any

-- a search that found something, with what it found
found_in : (r : Found) (p : ℕ) → FoundIn p r → (k : ℕ) × (n : ℕ) × (r ≡ At p k n)
unfolding FoundIn
found_in (At q k n) p e = (k, n, ap (λ (x : ℕ). At x k n) e)
found_in (Absent q n) p e = absurd e

pub found_key : (r : Found) (l : ℕ) → FoundKey l r → (p : ℕ) × (k : ℕ) × (n : ℕ) × (r ≡ At p k n) × (k ≡ l)
unfolding FoundKey
found_key (At q k n) l e = (q, k, n, refl, e)
found_key (Absent q n) l e = absurd e

module _ (t keys : List ℕ) (used : List Bool) (ks : List ℕ) (u : Lists used ks) where
  -- each place and each member place is right: so is the whole
  module _ (size : length t ≡ 512) (ps : (p : ℕ) → p < 512 → PlaceOk t keys used p) (qs : (k : ℕ) → k < 256 → KeyOk t keys used k) where
    -- what stands in a place that is not empty is found there
    own : (p : ℕ) → p < 512 → get_or t p 0 < 256 → (k : ℕ) × (n : ℕ) × (searched t keys (get_or keys (get_or t p 0) 0) ≡ At p k n)
    unfolding PlaceOk
    own p lp l =
        ⊎_elim (λ (e : get_or t p 0 ≡ 65535). absurd (omega arith)) (λ w. found_in (searched t keys (get_or keys (get_or t p 0) 0)) p w.2) (ps p lp)

    -- two places whose members have one number are one place
    one : (p q : ℕ) → p < 512 → q < 512 → get_or t p 0 < 256 → get_or t q 0 < 256 → get_or keys (get_or t p 0) 0 ≡ get_or keys (get_or t q 0) 0 → p ≡ q
    one p q lp lq op oq e =
        let a = own p lp op in
        let b = own q lq oq in
        let z : At p a.0 a.1 ≡ At q b.0 b.1 = sym a.2 ∙ ap (searched t keys) e ∙ b.2 in
        cc z

    stands : (k : ℕ) → Memᴰ k ks → (p : ℕ) × (p < 512) × (get_or t p 0 ≡ k)
    unfolding KeyOk
    stands k m =
        let w = u.of k m in
        let f = found_key (searched t keys (get_or keys k 0)) k (qs k w.0 w.1) in
        let r = reached t keys (get_or keys k 0) f.0 f.2 f.1 f.3 in
        (f.0, r.inside, r.key ∙ f.4)

    only' : (p : ℕ) → p < 512 → (get_or t p 0 ≡ 65535) ⊎ Memᴰ (get_or t p 0) ks
    unfolding PlaceOk
    only' p lp = ⊎_elim (λ e. inl e) (λ w. inr (u.to (get_or t p 0) w.0 w.1)) (ps p lp)

    distinct' : (k l : ℕ) → Memᴰ k ks → Memᴰ l ks → get_or keys k 0 ≡ get_or keys l 0 → k ≡ l
    distinct' k l mk ml e =
        let a = stands k mk in
        let b = stands l ml in
        let ea : get_or t a.0 0 < 256 = rw a.2 (u.of k mk).0 in
        let eb : get_or t b.0 0 < 256 = rw b.2 (u.of l ml).0 in
        let z = one a.0 b.0 a.1 b.1 ea eb
        (ap (λ (x : ℕ). get_or keys x 0) a.2 ∙ e ∙ sym (ap (λ (x : ℕ). get_or keys x 0) b.2)) in
        sym a.2 ∙ ap (λ (x : ℕ). get_or t x 0) z ∙ b.2

    pub right : Holds t keys ks
    right =
        record {
          size = size;
          few = u.few;
          place = λ k m. (u.of k m).0;
          distinct = distinct';
          has = stands;
          once = λ p q lp lq l e. one p q lp lq l (rw e at l) (ap (λ (x : ℕ). get_or keys x 0) e);
          only = only';
          reach =
              λ p q lp lq l d.
              let a = own p lp l in
              let r = reached t keys (get_or keys (get_or t p 0) 0) p a.1 a.0 a.2 in
              ⊎_elim
              (λ (d' : dist (home (get_or keys (get_or t p 0) 0)) q < dist (home (get_or keys (get_or t p 0) 0)) p). r.before q lq d')
              (λ (d' : dist (home (get_or keys (get_or t p 0) 0)) p ≤ dist (home (get_or keys (get_or t p 0) 0)) q).
              rw (dist_inj (home (get_or keys (get_or t p 0) 0)) q p (home_lt (get_or keys (get_or t p 0) 0)) lq lp (omega arith)) l)
              (less_or_not (dist (home (get_or keys (get_or t p 0) 0)) q) (dist (home (get_or keys (get_or t p 0) 0)) p));
        }

  -- the whole is right: so is each place and each member place
  module _ (h : Holds t keys ks) where
    finds : (k : ℕ) → Memᴰ k ks → (r : Found) → searched t keys (get_or keys k 0) ≡ r → FoundKey k r × ((p : ℕ) → p < 512 → get_or t p 0 ≡ k → FoundIn p r)
    unfolding FoundKey FoundIn
    finds k m (At q l n) e =
        let w = says_at t keys ks (get_or keys k 0) h q n l e in
        let same : l ≡ k = h.distinct l k w.2 m w.3 in
        (same, λ p lp ep. h.once q p w.0 lp (rw w.1 (h.place l w.2)) (w.1 ∙ same ∙ sym ep))
    finds k m (Absent q n) e = absurd ((says_absent t keys ks (get_or keys k 0) h q n e).1 k m refl)

    pub place_right : (p : ℕ) → p < 512 → PlaceOk t keys used p
    unfolding PlaceOk
    place_right p lp =
        ⊎_elim (λ e. inl e)
        (λ (m : Memᴰ (get_or t p 0) ks).
        let w = u.of (get_or t p 0) m in
        inr (w.0, w.1, (finds (get_or t p 0) m (searched t keys (get_or keys (get_or t p 0) 0)) refl).1 p lp refl))
        (h.only p lp)

    pub key_right : (k : ℕ) → k < 256 → KeyOk t keys used k
    unfolding KeyOk
    key_right k lk e = (finds k (u.to k lk e) (searched t keys (get_or keys k 0)) refl).0
