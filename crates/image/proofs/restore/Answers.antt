-- `image::restore` meets its contract, by the laws of proofs/Appends.antt and Restores.antt. Assumes nothing.
use Prim.Native.Nat.{ℕ, ◌+◌, ◌*◌, ◌<◌}
use mathlib.Core.List.{[], ◌∷◌, ◌++◌}
use mathlib.Core.Path.{◌≡◌, sym, subst}
use native.Mathlib.Omega.{arith}
use lib.ListN.{length}
use borrow.Author.Rules.{rules}
use Rattle.std.proofs.lemmas.List.{length-append}
use Rattle.std.proofs.lemmas.Slice.Zip.{zip_turn, zip_end}
use Rattle.multimap.specs.Map.{limits_of}
use Rattle.image.proofs.Numbers.{nth_read, many_pieces, all_pairs}
use Rattle.image.proofs.Appends.{Building, building_one, building_stuck, building_all}
use Rattle.image.proofs.Restores.{restored_many, restored_all, restored_other}
use Rattle.image.proofs.restore.Goals as goal

pub returns-in_default : goal.returns-in_default
returns-in_default c g e =
    let s = c.args.s.now in
    let n = c.args.n in
    let l = c.loop-member in
    let allowed = g.limited.allowed in
    let built = l.invariant g e in
    let t = zip_turn c.number_bytes-ks.result.now c.number_bytes-vs.result.now l.yielded _ _ c.next.new.self _ (search rules) (search rules) l.yielded_by _ c.in-Some.is c.next.ensures.steps in
    let h : length l.yielded < n = omega (arith, t.1, c.requires.long, many_pieces s (8 + 8 * n) c.number_bytes-vs.ensures.front_len) in
    restored_many _ s allowed c.requires
    (building_stuck _ s n built allowed.rounds c.requires.few h
    (nth_read s 8 n (length l.yielded) h (omega (arith, c.requires.long)) c.number_bytes-ks.ensures.front (t.2 []) c.from_le_bytes-k.ensures)
    (nth_read s (8 + 8 * n) n (length l.yielded) h (omega (arith, c.requires.long)) c.number_bytes-vs.ensures.front (t.3 []) c.from_le_bytes-v.ensures) (c.in_default.ensures built.linked))

pub loop-member-preserved : goal.loop-member-preserved
loop-member-preserved c g e =
    let s = c.args.s.now in
    let n = c.args.n in
    let l = c.loop-member in
    let built = l.invariant g e in
    let t = zip_turn c.number_bytes-ks.result.now c.number_bytes-vs.result.now l.yielded _ _ c.next.new.self _ (search rules) (search rules) l.yielded_by _ c.in-Some.is c.next.ensures.steps in
    let h : length l.yielded < n = omega (arith, t.1, c.requires.long, many_pieces s (8 + 8 * n) c.number_bytes-vs.ensures.front_len) in
    let more : length l.yielded + 1 ≡ length (l.yielded ++ (c.in-Some.field-0-0, c.in-Some.field-0-1) ∷ []) = sym (length-append l.yielded _) in
    subst (λ (j : ℕ). Building (limits_of c.args.map.now) s n j c.append.new.map) more
    (building_one _ s n built g.limited.allowed.rounds c.requires.few h
    (nth_read s 8 n (length l.yielded) h (omega (arith, c.requires.long)) c.number_bytes-ks.ensures.front (t.2 []) c.from_le_bytes-k.ensures)
    (nth_read s (8 + 8 * n) n (length l.yielded) h (omega (arith, c.requires.long)) c.number_bytes-vs.ensures.front (t.3 []) c.from_le_bytes-v.ensures) (c.in-Ok.ensures built.linked))

pub returns-then-map-m : goal.returns-then-map-m
returns-then-map-m c g e =
    let s = c.args.s.now in
    let n = c.args.n in
    let l = c.loop-member in
    let built = l.invariant g e in
    let all = zip_end c.number_bytes-ks.result.now c.number_bytes-vs.result.now l.yielded _ _ c.next.new.self _ (search rules) (search rules) l.yielded_by c.in-None.is c.next.ensures.steps in
    restored_other _ s g.limited.allowed c.requires l.map built.linked
    (building_all _ s n built (all_pairs s n c.requires.long c.number_bytes-ks.ensures.front_len c.number_bytes-vs.ensures.front_len all)) c.if-map-m.true

pub returns : goal.returns
returns c g e =
    let s = c.args.s.now in
    let n = c.args.n in
    let l = c.loop-member in
    let built = l.invariant g e in
    let all = zip_end c.number_bytes-ks.result.now c.number_bytes-vs.result.now l.yielded _ _ c.next.new.self _ (search rules) (search rules) l.yielded_by c.in-None.is c.next.ensures.steps in
    restored_all _ s g.limited.allowed c.requires l.map built.linked
    (building_all _ s n built (all_pairs s n c.requires.long c.number_bytes-ks.ensures.front_len c.number_bytes-vs.ensures.front_len all)) c.if-map-m.false
