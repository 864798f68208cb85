-- A table begins where the rows of the tables before it end, and a row is no longer than a meter's.
use native.Mathlib.Omega.{arith}
use Rattle.dayformat.proofs.Every.{inside}
use Rattle.dayformat.proofs.Small.{rows-small, columns_few}
use Rattle.dayformat.proofs.layout.row_place.Goals as goal

pub numbers_before-start-requires : goal.numbers_before-start-requires
numbers_before-start-requires c = omega (arith, c.table_place.ensures, inside c.args.tag)

pub overflow_mul-result : goal.overflow_mul-result
overflow_mul-result c = rw c.form_of.ensures (omega (arith, rows-small c.args.tag c.args.row (omega (arith, c.ranges.row))))

pub overflow_add-result : goal.overflow_add-result
overflow_add-result c =
    rw c.form_of.ensures
    (omega (arith, rows-small c.args.tag c.args.row (omega (arith, c.ranges.row)), columns_few, inside c.args.tag))

pub returns : goal.returns
returns c = (
  rw (c.form_of.ensures, ← c.table_place.ensures, ← c.numbers_before-start.ensures.0),
  rw c.form_of.ensures
      (omega (arith, rows-small c.args.tag c.args.row (omega (arith, c.ranges.row)), columns_few, inside c.args.tag)),
)
