use native.Mathlib.Omega.{arith}
use Rattle.columns.proofs.Lists.{filling_none, filling_next}
use Rattle.columns.proofs.Sums.{adding_none, adding_next}
use Rattle.rounds.proofs.Turns.{given-small}
use Rattle.rounds.proofs.rows.Sharers.fill.Goals as goal

pub loop-row-init : goal.loop-row-init
loop-row-init c = (adding_none _ _, filling_none _ _)

pub overflow_add-total : goal.overflow_add-total
overflow_add-total c =
    let rows = c.args.self.now.rows in
    omega (arith, given-small rows _ c.loop-row.invariant.0, rows.needs c.loop-row.row c.loop-row-test.true)

pub loop-row-preserved : goal.loop-row-preserved
loop-row-preserved c = (
  adding_next _ _ c.loop-row.invariant.0 c.loop-row-test.true c.share_at-share.ensures,
  filling_next _ _ _ _ _ c.loop-row.invariant.1 c.share_at-share.ensures,
)
