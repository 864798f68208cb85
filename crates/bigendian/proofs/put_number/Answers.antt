use Rattle.columns.proofs.Laying.{laying_none}
use Rattle.bigendian.proofs.Laying.{number-next, number-all}
use Rattle.bigendian.proofs.put_number.Goals as goal

pub loop-place-init : goal.loop-place-init
loop-place-init c = rw c.min-place.ensures laying_none

pub loop-place-preserved : goal.loop-place-preserved
loop-place-preserved c =
    number-next _ _ c.loop-place-test.true c.loop-place.invariant c.put_byte.ensures

pub shape_of-block : goal.shape_of-block
shape_of-block c = c.loop-place.invariant.long

pub returns : goal.returns
returns c = number-all _ _ c.loop-place-test.false c.loop-place.invariant
