use native.Mathlib.Omega.{arith}
use Rattle.columns.proofs.Lists.{filling_none, filling_next, filling_past}
use Rattle.dayshares.proofs.lists.add_list.Goals as goal

pub loop-row-init : goal.loop-row-init
loop-row-init c = filling_none _ _

pub overflow_add-list : goal.overflow_add-list
overflow_add-list c =
    let now = c.loop-row in
    omega (
      arith,
      filling_past _ _ _ _ now.invariant (omega arith) now.row (omega arith),
      c.requires.1 now.row c.loop-row-test.true,
    )

pub loop-row-preserved : goal.loop-row-preserved
loop-row-preserved c =
    let now = c.loop-row in
    filling_next _ _ _ _ _ now.invariant
    (omega (arith, filling_past _ _ _ _ now.invariant (omega arith) now.row (omega arith)))
