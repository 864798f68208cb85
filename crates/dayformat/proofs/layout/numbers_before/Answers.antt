use Prim.Native.Nat.{◌^◌}
use native.Mathlib.Nat.{mul-le-mul_right}
use native.Mathlib.Omega.{arith}
use Rattle.columns.proofs.Sums.{sum-none, sum-next}
use Rattle.dayformat.specs.Format.{tag_at, form}
use Rattle.dayformat.specs.Layout.{held}
use Rattle.dayformat.proofs.Small.{rows-small, columns_few}
use Rattle.dayformat.proofs.layout.numbers_before.Goals as goal

pub loop-place-init : goal.loop-place-init
loop-place-init c = (omega (arith, sum-none (λ place. held c.args.counts (tag_at place))), omega arith)

pub overflow_add-numbers : goal.overflow_add-numbers
overflow_add-numbers c =
    rw c.form_of.ensures
    (omega (arith, rows-small c.tag_at-tag.result c.count_of.result c.count_of.type_inv, columns_few, c.loop-place.invariant.1))

pub loop-place-preserved : goal.loop-place-preserved
loop-place-preserved c =
    let inv = c.loop-place.invariant in
    let few =
    mul-le-mul_right {m = c.count_of.result} {n = 2 ^ 32} (form (tag_at c.loop-place.place)).columns
    (omega (arith, c.count_of.type_inv)) in (
      rw (c.form_of.ensures, c.count_of.ensures, c.tag_at-tag.ensures)
          (omega (arith, inv.0, sum-next c.loop-place.place (λ place. held c.args.counts (tag_at place)))),
      rw (c.form_of.ensures, c.tag_at-tag.ensures)
          (omega (arith, inv.1, few, sum-next c.loop-place.place (λ place. (form (tag_at place)).columns))),
    )
