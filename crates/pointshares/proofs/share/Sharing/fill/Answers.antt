use native.Mathlib.Omega.{arith}
use Rattle.columns.proofs.Lists.{filling_none, filling_next}
use Rattle.columns.proofs.Sums.{adding_none, adding_next, adding_bound}
use Rattle.units.specs.Bound.{most_hour}
use Rattle.pointshares.proofs.Cases.{share-most}
use Rattle.pointshares.proofs.share.Sharing.fill.Goals as goal

pub loop-row-init : goal.loop-row-init
loop-row-init c = (adding_none _ _, filling_none _ _)

pub overflow_add-given : goal.overflow_add-given
overflow_add-given c =
    let most = share-most c.args.self.now.shareable in
    omega (
      arith,
      adding_bound _ _ c.loop-row.invariant.0 most_hour most,
      c.share_at-share.ensures,
      most c.loop-row.row c.loop-row-test.true,
    )

pub loop-row-preserved : goal.loop-row-preserved
loop-row-preserved c =
    let before = c.loop-row.invariant in
    let is = c.share_at-share.ensures in
    (adding_next _ _ before.0 c.loop-row-test.true is, filling_next _ _ _ _ _ before.1 is)
