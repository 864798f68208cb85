-- The rows that the pass has gone over make the total so far; the other sum only stays small.
use Prim.Native.Nat.{◌*◌, ◌≤◌}
use lib.ListN.{length}
use Rattle.columns.specs.Column.{col}
use Rattle.columns.proofs.Sums.{Adding}
use Rattle.sharing.specs.Round.{share}
use Rattle.rounds.proofs.rows.Sharers.pass_at.Given as goal

abbrev pub invariant-loop-row : goal.invariant-loop-row
invariant-loop-row l =
    Adding (length l.self.weights.now) (λ i. share (col l.self.weights.now i) (col l.self.needs.now i) l.level) l.row l.total
    × (l.short ≤ l.row * 1_000_000)
