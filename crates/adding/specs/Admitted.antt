-- What `admit` and `check_poster` leave, whatever the arrays hold.
use Rattle.std.specs.Prelude.{ℕ, ◌≤◌, ◌<◌, ◌≡◌, Result, Ok, Err, true, false, ltb}
use Rattle.answers.specs.declared.Refusal.{Refusal}
use Rattle.answers.specs.declared.Refusal.TheVariants.{Full, Crowded, NoPoster}
use Rattle.links.specs.Stores.{spot}
use Rattle.multimap.specs.declared.ListOrderedMultimap.{ListOrderedMultimap}
use Rattle.multimap.specs.Map.{limits_of}
use Rattle.multimap.specs.Changes.{with_member, with_round}

-- the member k, which the place p of the index is to lead to, joins with its first round v, counted for the poster
abbrev pub with_first : ListOrderedMultimap → ℕ → ℕ → ℕ → ℕ → ListOrderedMultimap
with_first a poster k v p = with_round (with_member a k p) poster (spot a.members) v

-- r is a with the new member k and its first round v; or it is refused by 1 or by 2, and r is a
pub record Admitted (a : ListOrderedMultimap) (poster k v p : ℕ) (o : Result (Unit {0}) Refusal) (r : ListOrderedMultimap) : Type 0 where
  pub full : (limits_of a).rounds ≤ a.rounds.len → (r ≡ a) × (o ≡ Err Full)
  pub crowded : a.rounds.len < (limits_of a).rounds → (limits_of a).members ≤ a.members.len → (r ≡ a) × (o ≡ Err Crowded)
  pub enters : a.rounds.len < (limits_of a).rounds → a.members.len < (limits_of a).members → (r ≡ with_first a poster k v p) × (o ≡ Ok tt)

-- r says whether p is a poster: only the numbers from 0 to 15 are
abbrev pub Posting : ℕ → Result (Unit {0}) Refusal → Type 0
Posting p (Ok d) = ltb 15 p ≡ false
Posting p (Err r) = (ltb 15 p ≡ true) × (r ≡ NoPoster)
