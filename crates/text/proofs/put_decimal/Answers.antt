use Rattle.text.proofs.Laying.{nothing_laid, number_none, number-next, number-all}
use Rattle.text.proofs.put_decimal.Goals as goal

pub returns-then-text-at : goal.returns-then-text-at
returns-then-text-at c = nothing_laid c.if-text-at.true c.decimal_length-length.ensures

pub loop-place-init : goal.loop-place-init
loop-place-init c = number_none _ c.decimal_length-length.ensures

pub loop-place-preserved : goal.loop-place-preserved
loop-place-preserved c =
    number-next _ _ c.loop-place-test.true c.loop-place.invariant (rw c.last_digit.ensures at c.put_byte.ensures)

pub returns : goal.returns
returns c =
    record {
      counts = c.decimal_length-length.ensures;
      lays = number-all _ _ c.loop-place-test.false c.loop-place.invariant;
    }
