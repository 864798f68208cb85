-- The rows that the loop has gone over are written and make the sum so far.
use lib.ListN.{length}
use Rattle.columns.proofs.Lists.{Filling}
use Rattle.columns.proofs.Sums.{Adding}
use Rattle.usegas.specs.Share.{gas_shares}
use Rattle.usegas.proofs.share.Sharing.fill.Given as goal

abbrev pub invariant-loop-row : goal.invariant-loop-row
invariant-loop-row l =
    let schedules = l.self.schedules in
    let given = gas_shares schedules.foundation schedules.rows.now l.self.net in
    Adding (length schedules.rows.now) given l.row l.given × Filling l.initial.shares given l.row l.shares
