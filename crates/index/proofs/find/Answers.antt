-- `index::find` meets its contract. The loop's invariant: what is left of the search, from the present place on, gives the answer.
-- Assumes nothing.
use Rattle.std.proofs.Common.{◌≡◌, ◌∙◌, sym, refl, ◌+◌, ◌-◌, ◌%◌, arith}
use Rattle.index.specs.Table.{home}
use Rattle.index.specs.Search.{search as searched}
use Rattle.index.proofs.Search.{home_lt, look_none, look_empty, look_hit, look_on}
use Rattle.index.proofs.find.Goals as goal

pub loop-before-init : goal.loop-before-init
unfolding searched
loop-before-init c =
    let l = home_lt c.args.member in
    let first : (c.start-first.result + 0) % 512 ≡ home c.args.member = omega arith in
    rw first refl

pub returns-then-key-ge-KEYS : goal.returns-then-key-ge-KEYS
returns-then-key-ge-KEYS c =
    let l = c.loop-before in
    sym (l.invariant ∙ look_empty _ _ _ _ _ (512 - l.before) (512 - (l.before + 1)) (omega arith) c.if-key-ge-KEYS.true)

pub returns-then-keys-key : goal.returns-then-keys-key
returns-then-keys-key c =
    let l = c.loop-before in
    sym (l.invariant ∙ look_hit _ _ _ _ _ (512 - l.before) (512 - (l.before + 1)) (omega arith) c.if-key-ge-KEYS.false c.if-keys-key.true)

pub loop-before-preserved : goal.loop-before-preserved
loop-before-preserved c =
    let l = c.loop-before in
    let next : ((c.start-first.result + l.before) % 512 + 1) % 512 ≡ (c.start-first.result + (l.before + 1)) % 512 = omega arith in
    rw (← next)
    (l.invariant ∙ look_on _ _ _ _ _ (512 - l.before) (512 - (l.before + 1)) (omega arith) c.if-key-ge-KEYS.false c.if-keys-key.false)

pub returns : goal.returns
returns c =
    let l = c.loop-before in
    let m = home_lt c.args.member in
    let all : l.before ≡ 512 = omega arith in
    let around : (c.start-first.result + 512) % 512 ≡ c.start-first.result = omega arith in
    sym (l.invariant ∙ rw all (look_none _ _ _ _ _ 0 refl ∙ rw around refl))
