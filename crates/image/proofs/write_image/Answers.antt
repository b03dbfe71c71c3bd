-- `image::write_image` meets its contract, by the laws of proofs/Images.antt. Assumes nothing.
use Rattle.image.proofs.Images.{write_short, write_done}
use Rattle.image.proofs.write_image.Goals as goal

pub returns-then-out-size : goal.returns-then-out-size
returns-then-out-size c = λ α h g. write_short c.args.map.now α h g c.args.out.now c.if-out-size.true

pub returns : goal.returns
returns c = λ α h g. write_done c.args.map.now α h g c.args.out.now c.if-out-size.false c.put_along.ensures
