-- `image::put` meets its contract. Assumes nothing.
use Rattle.std.proofs.Common.{rules, ◌≡◌, length}
use Rattle.image.proofs.Writes.{stored_array}
use Rattle.image.proofs.put.Goals as goal

pub returns : goal.returns
returns g c =
    let whole : length c.args.bytes.now ≡ g.row.N = search rules in
    rw c.store.ensures (stored_array c.args.out.now c.args.bytes.now c.args.at g.row.N whole c.requires)
