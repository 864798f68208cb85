-- The rows that the loop has gone over make the sum so far.
use lib.ListN.{length}
use Rattle.columns.proofs.Sums.{Adding}
use Rattle.usegas.specs.Share.{weights}
use Rattle.usegas.proofs.schedules.Schedules.total.Given as goal

abbrev pub invariant-loop-row : goal.invariant-loop-row
invariant-loop-row l = Adding (length l.self.rows.now) (weights l.self.foundation l.self.rows.now) l.row l.total
