-- The step of `pack_to`: when it is refused; and that a map that was copied out and taken in again is well-linked, stands for what it stood
-- for, and has its places in order. Assumes nothing.
use Prim.Native.Nat.{ℕ, ◌≤◌, ◌<◌, min}
use mathlib.Core.Path.{◌≡◌, refl, sym, ap, ◌∙◌, subst}
use mathlib.Core.Bool.{true, false, ◌||◌, or-true}
use mathlib.Core.Logic.{◌⊎◌, ⊎_elim}
use borrow.Author.Tests.{lt-ltb, le-ltb}
use mathlib.Core.List.{List, map}
use native.Mathlib.Omega.{arith}
use lib.Dec.{ltb}
use lib.ListN.{length, get_or, take, replicate, length-replicate, length-map}
use lib.Seq.{length-take-le}
use Rattle.steps.specs.State.{State}
use Rattle.steps.specs.Call.{pack_to, refused, done}
use Rattle.steps.specs.Step.{step, checks, act, say}
use Rattle.steps.specs.Trace.{Does}
use Rattle.steps.proofs.Doing.{does_refuse, does_pack}
use Rattle.links.specs.Route.{tally}
use Rattle.links.specs.Places.{Places, order, Linked}
use Rattle.links.proofs.Lists.{length_order, in_array, order_distinct}
use Rattle.multimap.specs.declared.ListOrderedMultimap.{ListOrderedMultimap}
use Rattle.multimap.specs.Sized.{Sized}
use Rattle.multimap.specs.Map.{at, pair_at, pairs, members, rounds_of, members_of, limits_of, state_of}
use Rattle.multimap.specs.WellLinked.{WellLinked, linked}
use Rattle.multimap.proofs.Stores.{tally_mem, length_pairs, length_members}
use Rattle.multimap.proofs.Copies.{get_d_in}
use Rattle.multimap.proofs.Sounds.{linked_sound, sound_linked}
use Rattle.packing.specs.Building.{up_to, Distinct, MembersCopied, RoundsCopied, Apart, Seated, Fillable, Filled, Repacked}
use Rattle.packing.specs.Cleared.{cleared}
use Rattle.packing.proofs.Clears.{cleared_map}
use Rattle.packing.proofs.Lists.{stands, nth_map, nth_apart, length_up, nth_up, below_in, map_up}
use Rattle.packing.proofs.Seats.{number}

-- ---- when it is refused

module _ (a b : ℕ) (s : State) where
  step_members : ltb a (length s.members) ≡ true → step (pack_to a b) s ≡ (say (refused 4), s)
  unfolding step checks act
  step_members e = rw e

  step_rounds : ltb a (length s.members) ≡ false → ltb b (length s.pairs) ≡ true → step (pack_to a b) s ≡ (say (refused 5), s)
  unfolding step checks act
  step_rounds e f = rw (e, f)

  step_above : ltb a (length s.members) ≡ false → ltb b (length s.pairs) ≡ false → (ltb s.limits.members a || ltb s.limits.rounds b) ≡ true
      → step (pack_to a b) s ≡ (say (refused 6), s)
  unfolding step checks act
  step_above e f h = rw (e, f, h)

  step_done : ltb a (length s.members) ≡ false → ltb b (length s.pairs) ≡ false → (ltb s.limits.members a || ltb s.limits.rounds b) ≡ false
      → step (pack_to a b) s ≡ (say done, s)
  unfolding step checks act
  step_done e f h = rw (e, f, h)

module _ (a b : ℕ) (m : ListOrderedMultimap) (g : WellLinked m) where
  pub few_members : a < m.members.len → Does linked (pack_to a b) m (say (refused 4)) m
  few_members h = does_refuse linked (pack_to a b) m 4 g (step_members a b (state_of m) (lt-ltb a (length (members m)) (rw (length_members m) h)))

  module _ (enough : m.members.len ≤ a) where
    fit_members : ltb a (length (members m)) ≡ false
    fit_members = le-ltb a (length (members m)) (rw (length_members m) enough)

    pub few_rounds : b < m.rounds.len → Does linked (pack_to a b) m (say (refused 5)) m
    few_rounds h = does_refuse linked (pack_to a b) m 5 g (step_rounds a b (state_of m) fit_members (lt-ltb b (length (pairs m)) (rw (length_pairs m) h)))

    module _ (room : m.rounds.len ≤ b) where
      fit_rounds : ltb b (length (pairs m)) ≡ false
      fit_rounds = le-ltb b (length (pairs m)) (rw (length_pairs m) room)

      pub above : (m.members.limit < a) ⊎ (m.rounds.limit < b) → Does linked (pack_to a b) m (say (refused 6)) m
      above h =
          does_refuse linked (pack_to a b) m 6 g
          (step_above a b (state_of m) fit_members fit_rounds
          (⊎_elim (λ (l : m.members.limit < a). rw (lt-ltb m.members.limit a l))
          (λ (l : m.rounds.limit < b). rw (lt-ltb m.rounds.limit b l) (or-true (ltb m.members.limit a))) h))

      pub packed : a ≤ m.members.limit → b ≤ m.rounds.limit → {r : ListOrderedMultimap} → Repacked m r → Does linked (pack_to a b) m (say done) r
      packed h k {r} p =
          does_pack linked (pack_to a b) m (say done) r refl
          (step_done a b (state_of m) fit_members fit_rounds (rw (le-ltb m.members.limit a h, le-ltb m.rounds.limit b k)))
          p.state p.linked p.packed

-- ---- what it leads to

distinct : (l : Places) → Linked l → Distinct (order l) l.root
distinct l g =
    record { few = omega (arith, length_order l, g.some_used, g.some_fresh); inside = in_array l g; once = order_distinct l g }

-- places that are those from 0 on stand in order
in_order : (l : Places) (n : ℕ) → order l ≡ up_to n → (i : ℕ) → i < l.len → get_or (order l) i 0 ≡ i
in_order l n e i h = ap (λ (q : List ℕ). get_or q i 0) e ∙ nth_up n i (omega (arith, length_order l, ap length e, length_up n))

-- r with another T
abbrev pub retaken : ListOrderedMultimap → List ℕ → ListOrderedMultimap
retaken r t = record r { taken = t }

retaken_sized : (r : ListOrderedMultimap) (t : List ℕ) → length t ≡ 16 → Sized r → Sized (retaken r t)
retaken_sized r t n s =
    record {
      keys = s.keys;
      lengths = s.lengths;
      next_key = s.next_key;
      previous_key = s.previous_key;
      values = s.values;
      key_index = s.key_index;
      next_value = s.next_value;
      previous_value = s.previous_value;
      next_index = s.next_index;
      previous_index = s.previous_index;
      index = s.index;
      taken = n;
    }

module _ (m : ListOrderedMultimap) (g : WellLinked m) where
  abbrev ks : List ℕ
  ks = order (members_of m)

  abbrev vs : List ℕ
  vs = order (rounds_of m)

  pub members_distinct : Distinct (order (members_of m)) 256
  members_distinct = distinct (members_of m) g.chained.members

  pub rounds_distinct : Distinct (order (rounds_of m)) 1024
  rounds_distinct = distinct (rounds_of m) g.chained.rounds

  pub none_seated : (numbers : List ℕ) {o : ListOrderedMultimap} → o ≡ cleared m → Seated numbers (limits_of o) 0 o
  none_seated numbers e =
      subst (λ (o : ListOrderedMultimap). Seated numbers (limits_of o) 0 o) (sym e)
      (record {
        sound = linked_sound (cleared m) (cleared_map m g.sized g.limited.allowed g.taken).0;
        members = refl;
        places = refl;
        fresh = refl;
        none = refl;
        limits = refl;
      })

  module _ (numbers ranks : List ℕ) (a : MembersCopied m.keys (order (members_of m)) numbers ranks) where
    number_is : (i : ℕ) → i < length ks → at numbers i ≡ at m.keys (get_or ks i 0)
    number_is i h = nth_map (at m.keys) ks i a.number h

    pub numbers_apart : Apart numbers m.members.len
    numbers_apart =
        record {
          few = omega (arith, members_distinct.few, length_order (members_of m));
          apart =
              λ i j h l e.
              let lj : j < length ks = rw (length_order (members_of m)) l in
              let li : i < length ks = omega arith in
              let one : get_or ks i 0 ≡ get_or ks j 0 =
              g.index.distinct (get_or ks i 0) (get_or ks j 0) (tally_mem _ ks (get_d_in ks i 0 li)) (tally_mem _ ks (get_d_in ks j 0 lj))
              (sym (number_is i li) ∙ e ∙ number_is j lj) in
              nth_apart ks i j 0 members_distinct.once h lj one;
        }

    -- the rank of a member place leads back to it
    rank_is : (k : ℕ) → 0 < tally k ks → (at ranks k < length ks) × (get_or ks (at ranks k) 0 ≡ k)
    rank_is k i =
        let w = stands k ks i in
        let e : at ranks k ≡ w.index = ap (at ranks) (sym w.is) ∙ a.rank w.index w.inside in
        (rw e w.inside, ap (λ (j : ℕ). get_or ks j 0) e ∙ w.is)

    module _ (owners scores : List ℕ)
        (b : RoundsCopied m.values m.key_index ranks (order (rounds_of m)) owners scores)
        (s : ListOrderedMultimap) (t : Seated numbers (limits_of m) m.members.len s) where
      -- the member place of the j-th round
      abbrev old : ℕ → ℕ
      old j = at m.key_index (get_or vs j 0)

      owner_is : (j : ℕ) → j < length vs → at owners j ≡ at ranks (old j)
      owner_is j h = nth_map (λ q. at ranks (at m.key_index q)) vs j b.owner h

      known : (j : ℕ) → j < length vs → 0 < tally (old j) ks
      known j h = g.chained.keys (get_or vs j 0) (get_d_in vs j 0 h)

      low : (j : ℕ) → j < length vs → at owners j < m.members.len
      low j h = rw (owner_is j h) (omega (arith, (rank_is (old j) (known j h)).0, length_order (members_of m)))

      pub fillable : Fillable owners m.rounds.len s
      fillable =
          record {
            sound = t.sound;
            none = t.none;
            few = omega (arith, rounds_distinct.few, length_order (rounds_of m));
            owner = λ j h. rw t.places (below_in m.members.len (at owners j) (low j (rw (length_order (rounds_of m)) h)));
          }

      module _ (r : ListOrderedMultimap) (f : Filled s owners scores m.rounds.len r) where
        same_members : members r ≡ members m
        same_members =
            ap (λ (keys : List ℕ). map (at keys) (order (members_of r))) f.keys
            ∙ ap (λ (l : Places). map (at s.keys) (order l)) f.members
            ∙ t.members
            ∙ map_up (at numbers) (at m.keys) m.members.len ks (length_order (members_of m))
            (λ i h. number_is i (rw (length_order (members_of m)) h))

        key_is : (j : ℕ) → j < length vs → at s.keys (at owners j) ≡ at m.keys (old j)
        key_is j h =
            let i : at owners j < length ks = rw (length_order (members_of m)) (low j h) in
            number numbers m.members.len s t (at owners j) (low j h)
            ∙ number_is (at owners j) i
            ∙ ap (λ (x : ℕ). at m.keys (get_or ks x 0)) (owner_is j h)
            ∙ ap (at m.keys) (rank_is (old j) (known j h)).1

        same_pairs : pairs r ≡ pairs m
        same_pairs =
            f.pairs
            ∙ map_up (λ j. record { key = at s.keys (at owners j); value = at scores j }) (pair_at m) m.rounds.len vs
            (length_order (rounds_of m))
            (λ j h. let i : j < length vs = rw (length_order (rounds_of m)) h in rw (key_is j i, nth_map (at m.values) vs j b.score i))

        abbrev p : ListOrderedMultimap
        p = retaken r m.taken

        same_state : state_of p ≡ state_of m
        same_state = rw (same_pairs, same_members, f.limits ∙ t.limits)

        pub repacked : Repacked m (retaken r m.taken)
        repacked =
            record {
              linked =
                  sound_linked m g p
                  (record { sized = retaken_sized r m.taken g.sized.taken f.sound.sized; chained = f.sound.chained; index = f.sound.index })
                  same_state;
              state = same_state;
              packed = (
                in_order (rounds_of r) m.rounds.len f.places,
                in_order (members_of r) m.members.len (ap order f.members ∙ t.places),
              );
            }

-- ---- as `pack` goes on: the numbers of the members that are held, and as many owners and scores as rounds

-- the front of an array that has room for n, cut at n or at the array's end
front_long : (x : ℕ) (k n room : ℕ) → k ≡ min n room → n ≤ room → length (take k (replicate room x)) ≡ n
front_long x k n room e few = length-take-le k (replicate room x) (omega (arith, length-replicate room x)) ∙ omega arith

module _ (m : ListOrderedMultimap) (g : WellLinked m) where
  pub numbers_long : (x : ℕ) {k : ℕ} → k ≡ min m.members.len 256 → length (take k (replicate 256 x)) ≡ m.members.len
  numbers_long x {k} e = front_long x k m.members.len 256 e (omega (arith, (members_distinct m g).few, length_order (members_of m)))

  pub rounds_long : (x : ℕ) {k : ℕ} → k ≡ min m.rounds.len 1024 → length (take k (replicate 1024 x)) ≡ m.rounds.len
  rounds_long x {k} e = front_long x k m.rounds.len 1024 e (omega (arith, (rounds_distinct m g).few, length_order (rounds_of m)))

  module _ {numbers ranks : List ℕ} (a : MembersCopied m.keys (order (members_of m)) numbers ranks)
      {owners scores : List ℕ} (b : RoundsCopied m.values m.key_index ranks (order (rounds_of m)) owners scores)
      {o s : ListOrderedMultimap} (e : o ≡ cleared m)
      (t : Seated numbers (limits_of o) 0 o → Apart numbers (length numbers) → Seated numbers (limits_of o) (length numbers) s) where
    members_held : length numbers ≡ m.members.len
    members_held = ap length a.number ∙ simp length-map (length_order (members_of m))

    rounds_held : length owners ≡ m.rounds.len
    rounds_held = ap length b.owner ∙ simp length-map (length_order (rounds_of m))

    scores_held : length scores ≡ m.rounds.len
    scores_held = ap length b.score ∙ simp length-map (length_order (rounds_of m))

    seated : Seated numbers (limits_of m) m.members.len s
    seated =
        subst (λ (i : ℕ). Seated numbers (limits_of m) i s) members_held
        (subst (λ (o : ListOrderedMultimap). Seated numbers (limits_of o) (length numbers) s) e
        (t (none_seated m g numbers e) (rw members_held (numbers_apart m g numbers ranks a))))

    pub packs : {r : ListOrderedMultimap} → (Fillable owners (length owners) s → length scores ≡ length owners → Filled s owners scores (length owners) r)
        → Repacked m (retaken r m.taken)
    packs {r} f =
        repacked m g numbers ranks a owners scores b s seated r
        (subst (λ (i : ℕ). Filled s owners scores i r) rounds_held
        (f (rw rounds_held (fillable m g numbers ranks a owners scores b s seated)) (scores_held ∙ sym rounds_held)))
