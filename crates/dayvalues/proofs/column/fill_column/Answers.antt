use native.Mathlib.Omega.{arith}
use Rattle.columns.proofs.Lists.{filling_none, filling_next, filling_all}
use Rattle.dayvalues.proofs.column.fill_column.Goals as goal

pub loop-row-init : goal.loop-row-init
loop-row-init c = filling_none _ _

pub overflow_cast-out : goal.overflow_cast-out
overflow_cast-out c =
    omega (arith, c.number_at.ensures, c.requires.bounded _ c.loop-row-test.true)

pub loop-row-preserved : goal.loop-row-preserved
loop-row-preserved c =
    filling_next _ _ _ _ _ c.loop-row.invariant c.number_at.ensures

pub shape_of-out : goal.shape_of-out
shape_of-out c = c.loop-row.invariant.long

pub returns : goal.returns
returns c = filling_all _ _ _ _ _ c.loop-row.invariant (omega (arith, c.loop-row.auto.row-end)) c.loop-row-test.false
