use mathlib.Core.Path.{refl}
use lib.ListN.{length-replicate}
use Rattle.daymeters.proofs.Writing.{writing_none, writing_next, written}
use Rattle.cormcushion.proofs.hours.hours_of.Goals as goal

pub loop-hour-init : goal.loop-hour-init
loop-hour-init g c = writing_none _ _ _

pub loop-hour-preserved : goal.loop-hour-preserved
loop-hour-preserved g c = writing_next _ _ _ _ _ c.loop-hour.invariant _ c.loop-hour-test.true refl

pub returns : goal.returns
returns g c = written _ _ _ _ _ c.loop-hour.invariant (length-replicate _ _) c.loop-hour-test.false
