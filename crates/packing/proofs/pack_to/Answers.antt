-- `packing::pack_to` meets its contract, by the laws of proofs/Packs.antt. Assumes nothing.
use mathlib.Core.Logic.{inl, inr}
use Rattle.packing.proofs.Packs.{few_members, few_rounds, above, packed}
use Rattle.packing.proofs.pack_to.Goals as goal
use Rattle.packing.proofs.pack_to.Goals.{then-map-keys_minimum-via-then-map-keys_minimum, then-map-keys_minimum-via-else-map-keys_minimum+then-map-values_minimum}

pub returns-then-keys_minimum-map : goal.returns-then-keys_minimum-map
returns-then-keys_minimum-map c = λ wl. few_members c.args.keys_minimum c.args.values_minimum c.args.map.now wl c.if-keys_minimum-map.true

pub returns-then-values_minimum-map : goal.returns-then-values_minimum-map
returns-then-values_minimum-map c =
    λ wl.
    few_rounds c.args.keys_minimum c.args.values_minimum c.args.map.now wl c.if-keys_minimum-map.false c.if-values_minimum-map.true

pub returns-then-map-keys_minimum : goal.returns-then-map-keys_minimum
returns-then-map-keys_minimum c =
    λ wl.
    above c.args.keys_minimum c.args.values_minimum c.args.map.now wl c.if-keys_minimum-map.false c.if-values_minimum-map.false
    (elim c.then-map-keys_minimum.branch [
      | then-map-keys_minimum-via-then-map-keys_minimum w ↦ inl w.if-map-keys_minimum.true
      | then-map-keys_minimum-via-else-map-keys_minimum+then-map-values_minimum w ↦ inr w.if-map-values_minimum.true
    ])

pub returns : goal.returns
returns c =
    λ wl.
    packed c.args.keys_minimum c.args.values_minimum c.args.map.now wl c.if-keys_minimum-map.false c.if-values_minimum-map.false
    c.if-map-keys_minimum.false c.if-map-values_minimum.false (c.pack.ensures wl)
