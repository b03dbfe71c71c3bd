-- `index::close` meets its contract. The loop's invariant: the table with its gap, over whatever list the index held.
-- Assumes nothing.
use Rattle.std.proofs.Common.{◌≡◌, ◌+◌, ◌%◌, arith}
use Rattle.index.proofs.Cycle.{dist_lt}
use Rattle.index.proofs.Table.{spare}
use Rattle.index.proofs.Shift.{opened, skipped, moved, closed}
use Rattle.index.proofs.close.Goals as goal
use Rattle.index.proofs.close.Goals.{then-steps, else-steps}

pub loop-passed-init : goal.loop-passed-init
loop-passed-init c = (c.requires, λ ks h occ. opened c.args.index.now c.args.keys.now ks c.args.at h c.requires occ)

pub returns-then-key-ge-KEYS : goal.returns-then-key-ge-KEYS
returns-then-key-ge-KEYS c =
    let a = c.args in
    let l = c.loop-passed in
    λ ks h occ.
    closed a.keys.now ks _ a.at (spare h).0 c.requires (spare h).1 l.index l.gap ((a.at + l.passed) % 512) l.passed
    (l.invariant.1 ks h occ) h.few h.place h.distinct c.if-key-ge-KEYS.true

pub loop-passed-preserved : goal.loop-passed-preserved
loop-passed-preserved c =
    let a = c.args in
    let l = c.loop-passed in
    let full = c.if-key-ge-KEYS.false in
    let up : ((a.at + l.passed) % 512 + 1) % 512 ≡ (a.at + (l.passed + 1)) % 512 = omega arith in
    elim c.if-steps.branch [
      | then-steps w ↦
          rw (w.index-is, w.gap-is, ← up) (
            omega arith,
            λ ks h occ.
                moved a.keys.now ks _ a.at (spare h).0 c.requires (spare h).1 l.index l.gap ((a.at + l.passed) % 512) l.passed
                (l.invariant.1 ks h occ) full (rw (c.steps.ensures, c.steps-in-loop-passed.ensures, c.start-home.ensures) at w.if-steps.true),
          )
      | else-steps w ↦
          rw (w.index-is, w.gap-is, ← up) (
            l.invariant.0,
            λ ks h occ.
                skipped a.keys.now ks _ a.at (spare h).0 c.requires (spare h).1 l.index l.gap ((a.at + l.passed) % 512) l.passed
                (l.invariant.1 ks h occ) full (rw (c.steps.ensures, c.steps-in-loop-passed.ensures, c.start-home.ensures) at w.if-steps.false),
          )
    ]

pub returns : goal.returns
returns c = λ ks h occ. absurd (omega (arith, (c.loop-passed.invariant.1 ks h occ).ahead, dist_lt c.args.at (spare h).0))
