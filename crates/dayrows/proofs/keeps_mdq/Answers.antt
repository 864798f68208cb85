-- The row is kept where it is not starved.
use mathlib.Core.Path.{ap}
use mathlib.Core.Bool.{not}
use Rattle.dayrows.specs.Test.{passes}
use Rattle.dayrows.proofs.keeps_mdq.Goals as goal

pub returns : goal.returns
unfolding passes
returns c =
    let is = c.row_of.ensures in
    ap not (rw (is.among, is.tagged, is.begins) at c.is_starved.ensures)
