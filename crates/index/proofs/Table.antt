-- Laws of an index that holds a list of member places.
-- Assumes nothing.
use mathlib.Core.Path.{◌≡◌, refl, sym, ◌∙◌}
use mathlib.Core.List.Memᴰ
use mathlib.Core.List.{List, [], Memᴰ}
use mathlib.Core.Logic.{inl, inr, ⊎_elim}
use Prim.Native.Nat.{ℕ, ◌<◌, ◌≤◌}
use native.Mathlib.Omega.{arith}
use lib.ListN.{length, get_or, get_or-replicate}
use Rattle.index.specs.Table.{Holds, empty_index}
use Rattle.index.proofs.Pigeon.{pigeon, some_or_all}

module _ {t keys ks : List ℕ} (h : Holds t keys ks) where
  -- what stands in a place that is not empty
  pub held : (p : ℕ) → p < 512 → get_or t p 0 < 256 → Memᴰ (get_or t p 0) ks
  held p lp l = ⊎_elim (λ (e : get_or t p 0 ≡ 65535). absurd (omega arith)) (λ m. m) (h.only p lp)

  -- there is an empty place
  pub spare : (e : ℕ) × (e < 512) × (256 ≤ get_or t e 0)
  spare =
      ⊎_elim (λ s. s)
      (λ (all : (p : ℕ) → p < 512 → get_or t p 0 < 256).
      let n : 512 ≤ length ks =
      pigeon 512 (λ p. get_or t p 0) ks (λ p lp. held p lp (all p lp)) (λ p q lp lq. h.once p q lp lq (all p lp))
      in
      absurd (omega (arith, h.few)))
      (some_or_all (λ p. get_or t p 0) 256 512)

-- only what keys has at the member places held matters
pub reread : {t keys keys' ks : List ℕ} → ((k : ℕ) → Memᴰ k ks → get_or keys k 0 ≡ get_or keys' k 0) → Holds t keys ks → Holds t keys' ks
reread {t} {keys} {keys'} same h =
    record {
      size = h.size;
      few = h.few;
      place = h.place;
      distinct = λ j k mj mk e. h.distinct j k mj mk (same j mj ∙ e ∙ sym (same k mk));
      has = h.has;
      once = h.once;
      only = h.only;
      reach = λ p q lp lq l d. h.reach p q lp lq l (rw (same (get_or t p 0) (held h p lp l)) d);
    }

-- the same member places in another list
pub relist : {t keys ks ks' : List ℕ} → length ks' ≤ 256 → ((k : ℕ) → Memᴰ k ks → Memᴰ k ks') → ((k : ℕ) → Memᴰ k ks' → Memᴰ k ks)
    → Holds t keys ks → Holds t keys ks'
relist few to from h =
    record {
      size = h.size;
      few = few;
      place = λ k m. h.place k (from k m);
      distinct = λ j k mj mk e. h.distinct j k (from j mj) (from k mk) e;
      has = λ k m. h.has k (from k m);
      once = h.once;
      only = λ p lp. ⊎_elim (λ e. inl e) (λ m. inr (to _ m)) (h.only p lp);
      reach = h.reach;
    }

-- an index with every place empty holds the empty list
pub bare : (t keys : List ℕ) → length t ≡ 512 → ((p : ℕ) → p < 512 → get_or t p 0 ≡ 65535) → Holds t keys []
bare t keys size all =
    record {
      size = size;
      few = omega arith;
      place = λ k m. absurd (Memᴰ.not-nil m);
      distinct = λ j k m n e. absurd (Memᴰ.not-nil m);
      has = λ k m. absurd (Memᴰ.not-nil m);
      once = λ p q lp lq l e. absurd (omega (arith, all p lp));
      only = λ p lp. inl (all p lp);
      reach = λ p q lp lq l d. absurd (omega (arith, all p lp));
    }

-- the index as it begins
pub empty_holds : (keys : List ℕ) → Holds empty_index keys []
empty_holds keys = bare empty_index keys refl (λ p lp. get_or-replicate 512 p 65535 0 lp)
