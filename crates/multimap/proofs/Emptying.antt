-- The rounds of a member place are all struck. Assumes nothing.
use Prim.Native.Nat.{ℕ, ◌+◌, ◌<◌}
use mathlib.Core.Path.{◌≡◌, refl, sym, ap, ◌∙◌}
use mathlib.Core.Logic.{◌≢◌}
use mathlib.Core.Bool.{true, not}
use mathlib.Core.List.{List, [], map, append-nil}
use native.Mathlib.Omega.{arith}
use borrow.Author.Tests.{ne_eqb, eqb-true}
use lib.Dec.{eqb}
use lib.ListN.{length, length-map}
use Rattle.steps.specs.Lists.{filter}
use Rattle.steps.specs.State.{Limits, of, others}
use Rattle.steps.proofs.Filter.{length_split}
use Rattle.links.specs.Route.{keep, strip}
use Rattle.links.specs.Places.{Places, order}
use Rattle.links.specs.Links.{record_in, record_of}
use Rattle.links.proofs.Routes.{keep_same, keep_inside}
use Rattle.links.proofs.Strips.{keep_neither, strip_those}
use Rattle.links.proofs.Chains.{in_record}
use Rattle.multimap.specs.Map.{at, pair_at, pairs, rounds_of, links_of}
use Rattle.multimap.specs.declared.ListOrderedMultimap.{ListOrderedMultimap}
use Rattle.multimap.specs.WellLinked.{WellLinked}
use Rattle.multimap.proofs.Stores.{length_pairs}
use Rattle.multimap.proofs.States.{limited_less}
use Rattle.multimap.proofs.Records.{Member, member_at, own_round, head_in, filter_map}
use Rattle.multimap.specs.Strike.{chosen, visited, Stretch, Struck, MemberPlace, Emptied}
use Rattle.multimap.proofs.Strikes.{chosen_all}

-- the place of a member
pub place_of : (m : ListOrderedMultimap) → WellLinked m → (k x : ℕ) → Member m k x → MemberPlace m x
place_of m g k x h = record { linked = g; inside = h.member }

module _ (m : ListOrderedMultimap) (k : ℕ) (h : MemberPlace m k) where
  abbrev vs : List ℕ
  vs = order (rounds_of m)

  abbrev key : ℕ → ℕ
  key = at m.key_index

  abbrev head : ℕ
  head = at m.next_index (1024 + k)

  -- the member that stands there, and its record
  pub its_member : Member m (at m.keys k) k
  its_member = member_at m h.linked (at m.keys k) k h.inside refl

  pub record_stretch : Stretch true m (at m.next_index (1024 + k)) (at m.lengths k)
  record_stretch =
      let w = its_member.walked in
      let own : key head ≡ k = in_record key k head vs (head_in m h.linked (at m.keys k) k its_member) in
      record {
        chained = h.linked.chained;
        front = [];
        back = [];
        whole = ap (record_in (links_of m)) own ∙ sym (append-nil (visited true m head (at m.lengths k)) ∙ w);
      }

  -- ---- all its rounds are struck

  module _ (o : ListOrderedMultimap) (s : Struck m (chosen [] (visited true m (at m.next_index (1024 + k)) (at m.lengths k))) o) where
    left : order (rounds_of o) ≡ keep (λ q. not (eqb (key q) k)) vs
    left = s.left ∙ ap (λ (l : List ℕ). strip l vs) (chosen_all (visited true m head (at m.lengths k)) ∙ its_member.walked) ∙ strip_those (λ q. eqb (key q) k) vs

    record_left : (j : ℕ) → record_in (links_of o) j ≡ record_of key j (keep (λ q. not (eqb (key q) k)) vs)
    record_left j = ap (λ (l : List _). record_of (at l) j (order (rounds_of o))) s.kept.key_index ∙ ap (record_of key j) left

    none_left : record_in (links_of o) k ≡ []
    none_left = record_left k ∙ keep_neither (λ q. eqb (key q) k) vs

    other_left : (j : ℕ) → j ≢ k → record_in (links_of o) j ≡ record_in (links_of m) j
    other_left j n =
        record_left j
        ∙ keep_inside (λ q. eqb (key q) j) (λ q. not (eqb (key q) k)) vs (λ q u. ap not (ne_eqb (key q) k (λ v. n (sym (eqb-true (key q) j u) ∙ v))))

    pairs_left : pairs o ≡ others (at m.keys k) (pairs m)
    pairs_left =
        rw (s.kept.keys, s.kept.values, s.kept.key_index)
        (ap (map (pair_at m)) (left ∙ sym (keep_same (λ q. not (of (at m.keys k) (pair_at m q))) (λ q. not (eqb (key q) k)) vs (λ q i. ap not (own_round m h.linked k q h.inside i))))
        ∙ sym (filter_map (λ p. not (of (at m.keys k) p)) (pair_at m) vs))

    fewer : o.rounds.len < m.rounds.len
    fewer =
        omega (
          arith,
          length_pairs o,
          ap length pairs_left,
          length_split (of (at m.keys k)) (pairs m),
          length-map (filter (of (at m.keys k)) (pairs m)) (λ p. p.value),
          its_member.many,
          its_member.some,
          length_pairs m,
        )

    pub emptied : Emptied m k o
    emptied =
        record {
          sized = s.sized;
          chained = s.chained;
          index = rw (s.kept.index, s.kept.keys, ap order s.kept.members) h.linked.index;
          member = rw (ap order s.kept.members) h.inside;
          none = none_left;
          some = λ j i n. rw (other_left j n) (h.linked.some j (rw (ap order s.kept.members) at i));
          keys = s.kept.keys;
          ledger = s.kept.ledger;
          limited =
              limited_less m o h.linked.limited s.kept.ledger.limits (omega (arith, ap (λ (l : Places). l.len) s.kept.members))
              (omega (arith, fewer));
          room = omega (arith, fewer, h.linked.limited.rounds, ap (λ (l : Limits). l.rounds) s.kept.ledger.limits);
          pairs = pairs_left;
          members = rw (s.kept.keys, ap order s.kept.members);
        }
