use mathlib.Core.Path.{◌∙◌}
use native.Mathlib.Omega.{arith}
use lib.ListN.{length-replicate}
use Rattle.columns.proofs.Lists.{filling_none, filling_next}
use Rattle.metered.proofs.Rows.{filled, figure_at, length-figures}
use Rattle.metered.proofs.hours.numbers_of.Goals as goal

pub loop-hour-init : goal.loop-hour-init
loop-hour-init g c = (omega arith, filling_none _ _)

pub loop-hour-preserved : goal.loop-hour-preserved
loop-hour-preserved g c =
    (omega (arith, c.loop-hour-test.true), filling_next _ _ _ _ _ c.loop-hour.invariant.1 (figure_at c.args.row _))

pub returns : goal.returns
returns g c =
    filled _ _ _ (length-replicate g.row.N 0) (length-figures c.args.row ∙ c.well_formed.0.1.0.1) c.loop-hour.invariant.1
    c.loop-hour.invariant.0 c.loop-hour-test.false
