-- At every turn no row so far is given more at the last level than at low.
use lib.ListN.{length}
use Rattle.columns.specs.Column.{col}
use Rattle.rounds.proofs.Unchanging.{Lasting}
use Rattle.rounds.proofs.rows.Sharers.last_unchanged.Given as goal

abbrev pub invariant-loop-row : goal.invariant-loop-row
invariant-loop-row l =
    Lasting (length l.self.weights.now) (col l.self.weights.now) (col l.self.needs.now) l.low l.high l.row l.last
