-- `image::read_image` meets its contract, by the laws of proofs/Restores.antt. Assumes nothing.
use mathlib.Core.Path.{refl}
use Rattle.std.proofs.lemmas.Result.{err_from_is_err_and}
use Rattle.image.proofs.Restores.{made_allowed, reads_too_high, right_of, reads_refused, reads_done, reads_members}
use Rattle.image.proofs.read_image.Goals as goal

pub returns-in_err-new : goal.returns-in_err-new
returns-in_err-new c =
    let p = err_from_is_err_and c.from_residual.result c.from_residual.ensures.1 in
    rw (p.1, p.2) (reads_too_high c.in_err-new.ensures c.args.bytes.now refl)

pub returns-in_err-n : goal.returns-in_err-n
returns-in_err-n c =
    let p = err_from_is_err_and c.from_residual-in_err-n.result c.from_residual-in_err-n.ensures.1 in
    let ok = made_allowed c.in_ok-new.ensures refl in
    rw (p.1, p.2) (reads_refused c.in_ok-new.ensures ok c.args.bytes.now (c.in_err-n.ensures ok))

pub restore-requires : goal.restore-requires
restore-requires c = right_of c.in_ok-new.ensures (made_allowed c.in_ok-new.ensures refl) c.args.bytes.now c.in_ok-n.ensures

pub returns-in-Err : goal.returns-in-Err
returns-in-Err c =
    reads_members c.in_ok-new.ensures (made_allowed c.in_ok-new.ensures refl) c.args.bytes.now c.in-Err.ensures c.new-in-Err.ensures.linked c.new-in-Err.ensures.state

pub returns : goal.returns
returns c = reads_done c.in_ok-new.ensures (made_allowed c.in_ok-new.ensures refl) c.args.bytes.now c.in_default.ensures
