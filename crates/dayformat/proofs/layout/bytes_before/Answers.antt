use mathlib.Core.Path.{ap}
use native.Mathlib.Omega.{arith}
use Rattle.columns.proofs.Sums.{sum-none, sum-next}
use Rattle.dayformat.specs.Format.{tag_at}
use Rattle.dayformat.specs.Layout.{run_size}
use Rattle.dayformat.proofs.Small.{small}
use Rattle.dayformat.proofs.Sizes.{head-size, fields-small}
use Rattle.dayformat.proofs.layout.bytes_before.Goals as goal

pub loop-place-init : goal.loop-place-init
loop-place-init c =
    (omega (arith, sum-none (λ place. run_size c.args.counts (tag_at place)), head-size), omega arith)

pub overflow_add-bytes : goal.overflow_add-bytes
overflow_add-bytes c = omega (arith, ap (λ form. form.size) c.form_of.ensures, (small c.tag_at-tag.result).size)

pub overflow_mul-bytes : goal.overflow_mul-bytes
overflow_mul-bytes c =
    rw c.form_of.ensures (omega (arith, fields-small c.tag_at-tag.result c.count_of.result c.count_of.type_inv))

pub overflow_add-bytes-in-loop-place : goal.overflow_add-bytes-in-loop-place
overflow_add-bytes-in-loop-place c =
    rw c.form_of.ensures
    (omega (
      arith,
      fields-small c.tag_at-tag.result c.count_of.result c.count_of.type_inv,
      c.loop-place.invariant.1,
      c.loop-place-test.true,
      c.requires,
    ))

pub loop-place-preserved : goal.loop-place-preserved
loop-place-preserved c =
    let inv = c.loop-place.invariant in (
      rw (c.form_of.ensures, c.count_of.ensures, c.tag_at-tag.ensures)
          (omega (arith, inv.0, sum-next c.loop-place.place (λ place. run_size c.args.counts (tag_at place)))),
      rw c.form_of.ensures (omega (arith, inv.1, fields-small c.tag_at-tag.result c.count_of.result c.count_of.type_inv)),
    )
