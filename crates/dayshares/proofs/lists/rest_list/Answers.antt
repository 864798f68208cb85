use Rattle.columns.proofs.Lists.{filling_none, filling_next}
use Rattle.dayshares.proofs.lists.rest_list.Goals as goal

pub loop-row-init : goal.loop-row-init
loop-row-init c = filling_none _ _

pub loop-row-preserved : goal.loop-row-preserved
loop-row-preserved c = filling_next _ _ _ _ _ c.loop-row.invariant c.saturating_sub.ensures
