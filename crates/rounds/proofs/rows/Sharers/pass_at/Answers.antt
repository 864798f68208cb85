use native.Mathlib.Omega.{arith}
use Rattle.columns.proofs.Sums.{adding_none, adding_next}
use Rattle.rounds.proofs.Turns.{given-small}
use Rattle.rounds.proofs.rows.Sharers.pass_at.Goals as goal
use Rattle.rounds.proofs.rows.Sharers.pass_at.Goals.{then-share-need, else-share-need}

pub loop-row-init : goal.loop-row-init
loop-row-init c = (adding_none _ _, omega arith)

pub share_at-share-requires : goal.share_at-share-requires
share_at-share-requires c =
    (c.args.self.now.rows.weights c.loop-row.row c.loop-row-test.true, c.requires)

pub overflow_add-total : goal.overflow_add-total
overflow_add-total c =
    let rows = c.args.self.now.rows in
    omega (arith, given-small rows _ c.loop-row.invariant.0, rows.needs c.loop-row.row c.loop-row-test.true)

pub overflow_add-short : goal.overflow_add-short
overflow_add-short c =
    omega (arith, c.args.self.now.rows.weights c.loop-row.row c.loop-row-test.true)

pub loop-row-preserved : goal.loop-row-preserved
loop-row-preserved c =
    let weight = c.args.self.now.rows.weights c.loop-row.row c.loop-row-test.true in (
      adding_next _ _ c.loop-row.invariant.0 c.loop-row-test.true c.share_at-share.ensures,
      elim c.if-share-need.branch [ then-share-need w ↦ omega arith | else-share-need w ↦ omega arith ],
    )
