use mathlib.Core.Path.{ap}
use native.Mathlib.Omega.{arith}
use Rattle.dayformat.specs.Format.{form}
use Rattle.dayformat.proofs.Small.{small, narrow}
use Prim.Native.Nat.{◌<◌}
use Rattle.dayfields.proofs.RowReading.{reads_none, reads_next, reads_all}
use Rattle.dayfields.proofs.row.read_row.Goals as goal

pub loop-place-init : goal.loop-place-init
loop-place-init c =
    let args = c.args in
    (reads_none args.tag args.file.now args.at args.numbers.now args.to, omega arith)

pub overflow_add-to : goal.overflow_add-to
overflow_add-to c =
    let inside : c.loop-place.place < (form c.args.tag).columns =
    omega (arith, c.loop-place-test.true, ap (λ form. form.columns) c.form_of-place-end.ensures) in
    omega (arith, c.requires.1, inside, (small c.args.tag).columns)

pub overflow_add-byte : goal.overflow_add-byte
overflow_add-byte c =
    let inside : c.loop-place.place < (form c.args.tag).columns =
    omega (arith, c.loop-place-test.true, ap (λ form. form.columns) c.form_of-place-end.ensures) in
    omega (
      arith,
      c.requires.0,
      c.well_formed.0.1,
      c.loop-place.invariant.1,
      inside,
      (small c.args.tag).columns,
      narrow c.args.tag c.loop-place.place,
      ap (λ c. c.width) c.column_at-width.ensures,
    )

pub loop-place-preserved : goal.loop-place-preserved
loop-place-preserved c =
    let inside : c.loop-place.place < (form c.args.tag).columns =
    omega (arith, c.loop-place-test.true, ap (λ form. form.columns) c.form_of-place-end.ensures) in (
      reads_next c.args.tag c.args.file.now c.args.at c.args.numbers.now c.args.to
          c.loop-place.place c.loop-place.byte c.loop-place.invariant.0 inside c.column_at-width.ensures
          c.number_at.ensures c.put.ensures,
      omega (
        arith,
        c.loop-place.invariant.1,
        narrow c.args.tag c.loop-place.place,
        ap (λ c. c.width)
            c.column_at-width.ensures,
      ),
    )

pub returns : goal.returns
returns c =
    let args = c.args in
    reads_all args.tag args.file.now args.at args.numbers.now args.to c.loop-place.place c.loop-place.byte
    c.loop-place.invariant.0
    (omega (arith, c.loop-place-test.false, ap (λ form. form.columns) c.form_of-place-end.ensures))
