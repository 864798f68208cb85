-- The rows that the loop has gone over are written and make the sum so far.
use lib.ListN.{length}
use Rattle.columns.proofs.Lists.{Filling}
use Rattle.columns.proofs.Sums.{Adding}
use Rattle.pointshares.specs.Share.{hour_shares}
use Rattle.pointshares.proofs.share.Sharing.fill.Given as goal

abbrev pub invariant-loop-row : goal.invariant-loop-row
invariant-loop-row l =
    let given = hour_shares l.self.entitlements.now l.self.mdqs.now l.self.capacity in
    Adding (length l.self.entitlements.now) given l.row l.given × Filling l.initial.shares given l.row l.shares
