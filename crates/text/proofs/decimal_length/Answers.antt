-- One digit more than the highest power of ten that the number reaches.
use Rattle.text.proofs.Decimals.{length-reached}
use Rattle.text.proofs.decimal_length.Goals as goal

pub returns : goal.returns
returns c =
    length-reached c.args.number _ (rw c.max.ensures at c.ilog10.ensures.power_le)
    (rw c.max.ensures at c.ilog10.ensures.next_power_gt)
