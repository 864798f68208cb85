use mathlib.Core.Path.{ap}
use native.Mathlib.Omega.{arith}
use Rattle.columns.specs.Column.{col}
use Rattle.dayformat.proofs.Small.{small, narrow}
use Rattle.daywriter.proofs.RowLaying.{lays-none, lays-next, lays_all}
use Rattle.daywriter.proofs.put.put_body.Goals as goal

pub loop-place-init : goal.loop-place-init
loop-place-init c =
    let args = c.args in
    (lays-none (col args.numbers.now) args.tag args.from args.block.now args.at, omega arith)

pub overflow_add-from : goal.overflow_add-from
overflow_add-from c =
    omega (arith, c.requires.0, rw c.form_of-place-end.ensures at c.loop-place-test.true, (small c.args.tag).columns)

pub overflow_add-byte : goal.overflow_add-byte
overflow_add-byte c =
    omega (
      arith,
      c.requires.1,
      c.loop-place.invariant.1,
      rw c.form_of-place-end.ensures at c.loop-place-test.true,
      (small c.args.tag).columns,
      narrow c.args.tag c.loop-place.place,
      ap (λ c. c.width) c.column_at-width.ensures,
    )

pub loop-place-preserved : goal.loop-place-preserved
loop-place-preserved c =
    let args = c.args in (
      lays-next (col args.numbers.now) args.tag args.from args.block.now args.at c.loop-place.place c.loop-place.byte
          c.loop-place.invariant.0 (rw c.form_of-place-end.ensures at c.loop-place-test.true) c.column_at-width.ensures
          c.number_of-number.ensures c.put_number.ensures,
      omega (arith, c.loop-place.invariant.1, narrow args.tag c.loop-place.place, ap (λ c. c.width) c.column_at-width.ensures),
    )

pub shape_of-block : goal.shape_of-block
shape_of-block c = c.loop-place.invariant.0.long

pub returns : goal.returns
returns c =
    let args = c.args in
    lays_all (col args.numbers.now) args.tag args.from args.block.now args.at c.loop-place.place c.loop-place.byte
    c.loop-place.invariant.0 (rw c.form_of-place-end.ensures at c.loop-place-test.false)
