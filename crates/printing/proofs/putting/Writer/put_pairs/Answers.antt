-- `printing::putting::Writer::put_pairs` meets its contract. The loop's invariant: what the pairs so far come to is written. Assumes nothing.
use mathlib.Core.Path.{◌≡◌, sym, ap, ◌∙◌}
use Prim.Native.Nat.{ℕ, ◌+◌}
use mathlib.Core.List.{[], ◌∷◌, ◌++◌}
use native.Mathlib.Omega.{arith}
use lib.ListN.{length, take, length-append}
use lib.Seq.{take_all}
use Rattle.std.proofs.Common.{rules}
use Rattle.std.specs.Slice.Iter.{iter_rest}
use Rattle.std.specs.Iterator.Adapters.{zip_first, zip_second}
use Rattle.std.specs.List.{flat_map, zip}
use Rattle.std.proofs.lemmas.Slice.Zip.{zip_turn, zip_end, length-zip}
use Rattle.printing.specs.Text.{paired, pairs}
use Rattle.printing.proofs.Puts.{wrote_join, wrote_as, wrote_long}
use Rattle.printing.proofs.Runs.{pair_more, few_pairs}
use Rattle.printing.proofs.putting.Writer.put_pairs.Goals as goal

pub put_pair-requires : goal.put_pair-requires
put_pair-requires c =
    let ks = c.args.members.now in
    let vs = c.args.rounds.now in
    let s = c.into_iter-member-iterator.result in
    let first : iter_rest (zip_first s) ≡ ks = search rules in
    let second : iter_rest (zip_second s) ≡ vs = search rules in
    let turn = zip_turn ks vs c.loop-member.yielded s c.loop-member.member-iterator c.next.new.self c.next.result first second c.loop-member.yielded_by (c.in-Some.field-0-0, c.in-Some.field-0-1) c.in-Some.is c.next.ensures.steps in
    let w = c.loop-member.invariant.2 in
    omega (arith, c.requires, turn.0, w.put.next, wrote_long w, few_pairs ks vs (length c.loop-member.yielded) (omega (arith, turn.0)))

pub loop-member-preserved : goal.loop-member-preserved
loop-member-preserved c =
    let ks = c.args.members.now in
    let vs = c.args.rounds.now in
    let n = length c.loop-member.yielded in
    let s = c.into_iter-member-iterator.result in
    let first : iter_rest (zip_first s) ≡ ks = search rules in
    let second : iter_rest (zip_second s) ≡ vs = search rules in
    let turn = zip_turn ks vs c.loop-member.yielded s c.loop-member.member-iterator c.next.new.self c.next.result first second c.loop-member.yielded_by (c.in-Some.field-0-0, c.in-Some.field-0-1) c.in-Some.is c.next.ensures.steps in
    let one : n + 1 ≡ length (c.loop-member.yielded ++ ((c.in-Some.field-0-0, c.in-Some.field-0-1) ∷ [])) =
    sym (length-append c.loop-member.yielded ((c.in-Some.field-0-0, c.in-Some.field-0-1) ∷ [])) in
    let more = pair_more ks vs n c.in-Some.field-0-0.now c.in-Some.field-0-1.now turn.0 turn.1 (turn.2 0) (turn.3 0) in
    ((tt, tt), tt, wrote_as (wrote_join c.loop-member.invariant.2 c.put_pair.ensures) (more ∙ ap (λ (k : ℕ). flat_map paired (take k (zip ks vs))) one))

pub returns : goal.returns
unfolding pairs
returns c =
    let ks = c.args.members.now in
    let vs = c.args.rounds.now in
    let s = c.into_iter-member-iterator.result in
    let first : iter_rest (zip_first s) ≡ ks = search rules in
    let second : iter_rest (zip_second s) ≡ vs = search rules in
    let all = zip_end ks vs c.loop-member.yielded s c.loop-member.member-iterator c.next.new.self c.next.result first second c.loop-member.yielded_by c.in-None.is c.next.ensures.steps in
    wrote_as c.loop-member.invariant.2 (ap (flat_map paired) (take_all (length c.loop-member.yielded) (zip ks vs) (omega (arith, all, length-zip ks vs))))
