use mathlib.Core.Path.{ap}
use Rattle.columns.proofs.Lists.{filling_none, filling_next}
use Rattle.dayshares.proofs.lists.free_flow_list.Goals as goal

pub loop-row-init : goal.loop-row-init
loop-row-init c = filling_none _ _

pub loop-row-preserved : goal.loop-row-preserved
loop-row-preserved c = filling_next _ _ _ _ _ c.loop-row.invariant (ap (λ g. g.0) c.free_flow_mdq.ensures)
