use native.Mathlib.Omega.{arith}
use Rattle.columns.proofs.Sums.{adding_none, adding_next}
use Rattle.rounds.proofs.Turns.{given-small}
use Rattle.rounds.proofs.rows.Sharers.whole.Goals as goal

pub loop-row-init : goal.loop-row-init
loop-row-init c = (adding_none _ _, omega arith)

pub share_at_top-most-requires : goal.share_at_top-most-requires
share_at_top-most-requires c =
    c.args.self.now.rows.needs c.loop-row.row c.loop-row-test.true

pub overflow_add-most : goal.overflow_add-most
overflow_add-most c =
    let rows = c.args.self.now.rows in
    omega (arith, given-small rows _ c.loop-row.invariant.0, rows.needs c.loop-row.row c.loop-row-test.true)

pub overflow_add-weights : goal.overflow_add-weights
overflow_add-weights c =
    omega (arith, c.args.self.now.rows.weights c.loop-row.row c.loop-row-test.true)

pub loop-row-preserved : goal.loop-row-preserved
loop-row-preserved c =
    let small = c.args.self.now.rows.weights c.loop-row.row c.loop-row-test.true in
    (adding_next _ _ c.loop-row.invariant.0 c.loop-row-test.true c.share_at_top-most.ensures, omega arith)
