use native.Mathlib.Omega.{arith}
use Rattle.columns.proofs.Sums.{adding_none, adding_next, adding_bound}
use Rattle.units.specs.Bound.{most_gigajoules}
use Rattle.usegas.proofs.Shares.{weight-small, weighed_small}
use Rattle.usegas.proofs.schedules.Schedules.total.Goals as goal

pub loop-row-init : goal.loop-row-init
loop-row-init c = adding_none _ _

pub overflow_add-total : goal.overflow_add-total
overflow_add-total c =
    let rows = c.requires in
    omega (
      arith,
      adding_bound _ _ c.loop-row.invariant most_gigajoules (weight-small _ _ rows),
      weighed_small _ _ rows _ _ c.weight_at-total.ensures c.loop-row-test.true,
    )

pub loop-row-preserved : goal.loop-row-preserved
loop-row-preserved c = adding_next _ _ c.loop-row.invariant c.loop-row-test.true c.weight_at-total.ensures
