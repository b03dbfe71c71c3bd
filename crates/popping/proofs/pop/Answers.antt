-- `popping::pop` meets its contract. Assumes nothing.
use Rattle.multimap.specs.Popping.{PairGone}
use Rattle.multimap.proofs.Leaves.{pair_gone}
use Rattle.multimap.proofs.Pops.{pop_none, pop_round, pop_popped}
use Rattle.popping.proofs.pop.Goals as goal

pub returns-then-map-eq0 : goal.returns-then-map-eq0
returns-then-map-eq0 c =
    λ b at_end wl. pop_none c.args.map.now wl b c.if-map-eq0.true

pub returns : goal.returns
returns c =
    λ b at_end wl.
    let inside = (pop_round c.args.map.now wl c.if-map-eq0.false c.args.x b at_end).inside in
    let w : PairGone c.args.map.now c.args.x c.leave.result c.leave.new.map =
    pair_gone c.args.map.now wl c.args.x inside c.leave.result c.leave.new.map c.leave.ensures in
    pop_popped c.args.map.now wl c.if-map-eq0.false c.args.x b at_end _ c.leave.new.map
    (record { answer = cc; state = w.state; linked = w.linked })
