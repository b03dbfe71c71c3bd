-- A member joins a map: what its stores make of it. Assumes nothing.
use Prim.Native.Nat.{ℕ}
use mathlib.Core.Path.{◌≡◌, refl, ap}
use mathlib.Core.Logic.{⊎_elim}
use native.Mathlib.Omega.{arith}
use lib.ListN.{set, length-set}
use lib.Seq.{get_or-set_same}
use Rattle.links.specs.Links.{Links, record_in}
use Rattle.links.specs.Stores.{spot}
use Rattle.multimap.specs.declared.ListOrderedMultimap.{ListOrderedMultimap}
use Rattle.multimap.specs.Changes.{with_member}
use Rattle.multimap.specs.Adding.{Ready, Joins, Joined, last_key}
use Rattle.multimap.proofs.Builds as B
use Rattle.multimap.proofs.Builds.{Admits}

module _ (m : ListOrderedMultimap) (k p : ℕ) (h : Joins m k p) where
  abbrev key : ℕ
  key = spot m.members

  -- the map with the stores
  abbrev r : ListOrderedMultimap
  r = with_member m k p

  admitted : Admits m k p
  admitted =
      record {
        sound = record { sized = h.linked.sized; chained = h.linked.chained; index = h.linked.index };
        spare = omega (arith, h.spare, h.linked.limited.allowed.members);
        vacant = h.vacant;
        new = h.new;
      }

  ready : Ready r key
  ready =
      let s = B.member_sound m k p admitted in
      record {
        sized = s.sized;
        chained = s.chained;
        here = B.member_here m k p admitted;
        others =
            λ j i n.
            ⊎_elim (λ e. absurd (n e)) (λ i'. rw (ap (λ (c : Links). record_in c j) (B.member_links m k p admitted)) (h.linked.some j i'))
            (B.old_or_new m k p admitted j i);
        index = s.index;
        counted = h.linked.taken;
        limited =
            record {
              allowed = h.linked.limited.allowed;
              members = omega (arith, h.spare);
              rounds = h.linked.limited.rounds;
            };
        room = h.room;
      }

  pub last_now : last_key (with_member m k p) ≡ spot m.members
  last_now =
      get_or-set_same (set m.previous_key key (last_key m)) 256 key 0 (rw (length-set, h.linked.sized.previous_key) (omega arith))

  pub joins : Joined m k (with_member m k p)
  joins =
      record {
        ready = rw last_now ready;
        number = rw last_now (B.member_number m k p admitted);
        pairs = B.member_pairs m k p admitted;
        members = B.member_members m k p admitted;
        ledger = record { taken = refl; limits = refl };
      }
