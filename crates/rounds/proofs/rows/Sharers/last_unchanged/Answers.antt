use native.Mathlib.Omega.{arith}
use Rattle.rounds.proofs.Unchanging.{lasting_none, lasting_next, lasting_all}
use Rattle.rounds.proofs.rows.Sharers.last_unchanged.Goals as goal

pub loop-row-init : goal.loop-row-init
loop-row-init c = lasting_none _ _ _ _ _ (omega arith)

pub last_of_row-last-requires : goal.last_of_row-last-requires
last_of_row-last-requires c =
    let now = c.loop-row in
    (c.args.self.now.rows.weights now.row c.loop-row-test.true, now.invariant.from, omega (arith, now.invariant.below, c.requires.1))

pub loop-row-preserved : goal.loop-row-preserved
loop-row-preserved c =
    let found = c.last_of_row-last.ensures in
    lasting_next _ _ _ _ _ c.loop-row.invariant _ c.loop-row-test.true found.0 found.1 found.2

pub returns : goal.returns
returns c =
    let found = c.loop-row.invariant in
    (found.from, found.below, lasting_all _ _ _ _ _ found c.loop-row-test.false)
