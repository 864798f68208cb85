-- The bytes of the number that has them lowest first are theirs, so swapped they are in their own order.
use Rattle.bigendian.proofs.Reading.{reading-four}
use Rattle.bigendian.proofs.four_of.Goals as goal

pub returns : goal.returns
returns c =
    reading-four c.args.part.now (λ i. (c.type_inv.part i).fits) c.requires c.from_le_bytes.ensures c.swap_bytes.ensures
