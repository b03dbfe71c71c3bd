-- `fnv::take` meets its contract: the definition's own step, for each byte. Assumes nothing.
use Rattle.std.proofs.Common.{◌≡◌, ◌∙◌, ℕ, suc, ◌+◌, ◌-◌, ◌/◌, ◌%◌, arith, refl, sym}
use Rattle.fnv.specs.Fnv.{step, fold, bytes}
use Rattle.fnv.proofs.take.Goals as goal

one_more : (n m h x : ℕ) → n ≡ suc m → fold h (bytes n x) ≡ fold (step h (x % 256)) (bytes m (x / 256))
unfolding fold bytes
one_more n m h x e = rw e refl

no_more : (n h x : ℕ) → n ≡ 0 → fold h (bytes n x) ≡ h
unfolding fold bytes
no_more n h x e = rw e refl

pub loop-taken-preserved : goal.loop-taken-preserved
loop-taken-preserved g c =
    let l = c.loop-taken in
    rw c.take_byte-h.ensures (l.invariant ∙ one_more (g.row.N - l._taken) (g.row.N - (l._taken + 1)) _ _ (omega arith))

pub returns : goal.returns
returns g c =
    let l = c.loop-taken in
    sym (l.invariant ∙ no_more (g.row.N - l._taken) _ _ (omega arith))
