-- The rows that the loop has gone over are written and make the total so far.
use lib.ListN.{length}
use Rattle.columns.specs.Column.{col}
use Rattle.columns.proofs.Lists.{Filling}
use Rattle.sharing.specs.Round.{share}
use Rattle.columns.proofs.Sums.{Adding}
use Rattle.rounds.proofs.rows.Sharers.fill.Given as goal

abbrev pub invariant-loop-row : goal.invariant-loop-row
invariant-loop-row l =
    Adding (length l.self.weights.now) (λ i. share (col l.self.weights.now i) (col l.self.needs.now i) l.level) l.row l.total
    × Filling l.initial.shares (λ i. share (col l.self.weights.now i) (col l.self.needs.now i) l.level) l.row l.shares
