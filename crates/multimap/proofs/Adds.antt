-- A round is added to a map: what its stores make of it. Assumes nothing.
use Prim.Native.Nat.{ℕ, ◌<◌}
use mathlib.Core.Path.{refl, sym, subst}
use native.Mathlib.Omega.{arith}
use lib.ListN.{length}
use Rattle.steps.specs.State.{max_rounds}
use Rattle.steps.proofs.Posters.{counting_within}
use Rattle.links.specs.Links.{Links, record_in}
use Rattle.links.proofs.Chains.{added_some}
use Rattle.multimap.specs.Map.{links_of}
use Rattle.multimap.specs.declared.ListOrderedMultimap.{ListOrderedMultimap}
use Rattle.multimap.specs.Changes.{with_round}
use Rattle.multimap.specs.Adding.{Ready, AddedTo}
use Rattle.multimap.specs.Sweep.{Sound}
use Rattle.multimap.proofs.Builds.{round_links, round_pairs, round_sound}

module _ (m : ListOrderedMultimap) (key : ℕ) (g : Ready m key) (poster v : ℕ) where
  sound : Sound m
  sound = record { sized = g.sized; chained = g.chained; index = g.index }

  room : m.rounds.len < max_rounds
  room = omega (arith, g.room, g.limited.allowed.rounds)

  pub adds : AddedTo m poster key v (with_round m poster key v)
  adds =
      let s = round_sound m sound key g.here room poster v in
      record {
        linked =
            record {
              sized = s.sized;
              chained = s.chained;
              some =
                  λ j i.
                  subst (λ (c : Links). 0 < length (record_in c j)) (sym (round_links m sound key g.here room poster v))
                  (added_some (links_of m) g.chained key g.here room g.others j i);
              index = s.index;
              taken = counting_within poster m.taken g.counted;
              limited = record { allowed = g.limited.allowed; members = g.limited.members; rounds = omega (arith, g.room) };
            };
        pairs = round_pairs m sound key g.here room poster v;
        members = refl;
        taken = refl;
        limits = refl;
      }
