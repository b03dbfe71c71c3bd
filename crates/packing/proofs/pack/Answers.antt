-- `packing::pack` meets its contract, by the laws of proofs/Packs.antt. Assumes nothing.
use Rattle.packing.proofs.Packs.{members_distinct, numbers_long, rounds_long, packs}
use Rattle.packing.proofs.pack.Goals as goal

pub returns : goal.returns
returns c =
    λ wl.
    let m = c.args.map.now in
    let rounds = c.min-values_held.ensures in
    packs m wl (c.copy_members.ensures (members_distinct m wl) (numbers_long m wl 0 c.min-keys_held.ensures))
    (c.copy_rounds.ensures (rounds_long m wl c.new-owners.result rounds) (rounds_long m wl 0 rounds))
    c.vacate.ensures c.seat.ensures c.fill.ensures
