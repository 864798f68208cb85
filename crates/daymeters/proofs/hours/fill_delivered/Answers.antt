use native.Mathlib.Omega.{arith}
use Rattle.columns.proofs.Lists.{filling_none, filling_next, filling_all}
use Rattle.daymeters.proofs.hours.fill_delivered.Goals as goal

pub loop-hour-init : goal.loop-hour-init
loop-hour-init c = filling_none _ _

pub loop-hour-preserved : goal.loop-hour-preserved
loop-hour-preserved c =
    filling_next _ _ _ _ _ c.loop-hour.invariant c.megajoules_at.ensures

pub shape_of-out : goal.shape_of-out
shape_of-out c = c.loop-hour.invariant.long

pub returns : goal.returns
returns c = filling_all _ _ _ _ _ c.loop-hour.invariant (omega (arith, c.loop-hour.auto.hour-end)) c.loop-hour-test.false
