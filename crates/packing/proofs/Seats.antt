-- The turns of `seat`: members join one after the other, in the places from 0 on. Assumes nothing.
use Prim.Native.Nat.{ℕ, ◌+◌, ◌<◌}
use mathlib.Core.Path.{◌≡◌, sym, ap, ◌∙◌, subst}
use mathlib.Core.List.{List, [], ◌∷◌, ◌++◌, map}
use native.Mathlib.Omega.{arith}
use borrow.Author.Tests.{eq-eqb}
use lib.ListN.{length}
use Rattle.steps.specs.State.{Limits}
use Rattle.links.specs.Places.{order}
use Rattle.links.specs.Stores.{spot, taking}
use Rattle.links.specs.declared.Counts.{Counts}
use Rattle.links.proofs.Lists.{length_order}
use Rattle.index.specs.Search.{search}
use Rattle.index.specs.declared.KeyPlace.{KeyPlace}
use Rattle.index.specs.declared.Found.TheVariants.{At, Absent}
use Rattle.index.proofs.Finds.{says_at}
use Rattle.multimap.specs.declared.ListOrderedMultimap.{ListOrderedMultimap}
use Rattle.multimap.specs.Map.{at, members_of}
use Rattle.multimap.specs.Changes.{with_member}
use Rattle.multimap.proofs.Stores.{mem_tally}
use Rattle.multimap.proofs.Builds.{Admits, admits, member_order, member_members, member_sound}
use Rattle.packing.specs.Building.{up_to, Apart, Seated}
use Rattle.packing.proofs.Lists.{up_more, map_more, length_up, in_below, map_same_up}

-- where the places from 0 on are in use and no other ever was, the next one is taken
module _ (cs : Counts) (n : ℕ) (len : cs.len ≡ n) (fresh : cs.fresh ≡ n) where
  pub spot_up : spot cs ≡ n
  spot_up = rw (eq-eqb cs.len cs.fresh (len ∙ sym fresh)) fresh

  pub fresh_up : (next : List ℕ) → n < 65535 → (taking next cs).fresh ≡ n + 1
  fresh_up next h = rw (eq-eqb cs.len cs.fresh (len ∙ sym fresh)) (omega arith)

module _ (numbers : List ℕ) {limits : Limits} (i : ℕ) (m : ListOrderedMultimap) (s : Seated numbers limits i m) where
  held : m.members.len ≡ i
  held = sym (length_order (members_of m)) ∙ ap length s.places ∙ length_up i

  -- the number at a place in use
  pub number : (x : ℕ) → x < i → at m.keys x ≡ at numbers x
  number x h = map_same_up (at m.keys) (at numbers) i (ap (map (at m.keys)) (sym s.places) ∙ s.members) x h

  -- the next number is no member yet
  pub not_seated : (n : ℕ) → Apart numbers n → i < n → (p l : ℕ) (x : KeyPlace) → search m.index m.keys (at numbers i) ≡ At p x l → ⊥
  not_seated n a more p l x e =
      let w = says_at m.index m.keys (order (members_of m)) (at numbers i) s.sound.index p l x e in
      let low : x < i = in_below i x (rw s.places at (mem_tally x (order (members_of m)) w.2)) in
      a.apart x i low more (sym (number x low) ∙ w.3)

  pub seat_more : i < 256 → (p l : ℕ) → search m.index m.keys (at numbers i) ≡ Absent p l
      → Seated numbers limits (i + 1) (with_member m (at numbers i) p)
  seat_more h p l e =
      let k : ℕ = at numbers i in
      let a : Admits m k p = admits m s.sound (rw held h) k p l e in
      record {
        sound = member_sound m k p a;
        members = member_members m k p a ∙ ap (λ (ks : List ℕ). ks ++ (k ∷ [])) s.members ∙ sym (map_more (at numbers) i);
        places =
            member_order m k p a
            ∙ ap (λ (ks : List ℕ). ks ++ (spot m.members ∷ [])) s.places
            ∙ ap (λ (y : ℕ). up_to i ++ (y ∷ [])) (spot_up m.members i held s.fresh)
            ∙ sym (up_more i);
        fresh = fresh_up m.members i held s.fresh m.next_key (omega arith);
        none = s.none;
        limits = s.limits;
      }

-- the loop goes on
module _ (numbers : List ℕ) {limits : Limits} (i : ℕ) (m : ListOrderedMultimap) (s : Seated numbers limits i m)
    (a : Apart numbers (length numbers)) (more : i < length numbers) {k : ℕ} (ek : k ≡ at numbers i) where
  pub seats_more : (p l : ℕ) → search m.index m.keys k ≡ Absent p l → {o : ListOrderedMultimap} → o ≡ with_member m k p → Seated numbers limits (i + 1) o
  seats_more p l e {o} is =
      subst (Seated numbers limits (i + 1)) (sym (is ∙ ap (λ (x : ℕ). with_member m x p) ek))
      (seat_more numbers i m s (omega (arith, a.few)) p l (sym (ap (search m.index m.keys) ek) ∙ e))

  pub seats_none : (p l : ℕ) (x : KeyPlace) → search m.index m.keys k ≡ At p x l → ⊥
  seats_none p l x e = not_seated numbers i m s (length numbers) a more p l x (sym (ap (search m.index m.keys) ek) ∙ e)
