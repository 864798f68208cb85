-- A row with a weight is full at the top, so the loop adds up the total there; the other sum only stays small.
use Prim.Native.Nat.{◌*◌, ◌≤◌}
use lib.ListN.{length}
use Rattle.columns.specs.Column.{col}
use Rattle.columns.proofs.Sums.{Adding}
use Rattle.sharing.specs.Round.{share, top}
use Rattle.rounds.proofs.rows.Sharers.whole.Given as goal

abbrev pub invariant-loop-row : goal.invariant-loop-row
invariant-loop-row l =
    Adding (length l.self.weights.now) (λ i. share (col l.self.weights.now i) (col l.self.needs.now i) top) l.row l.most
    × (l.weights ≤ l.row * 1_000_000)
