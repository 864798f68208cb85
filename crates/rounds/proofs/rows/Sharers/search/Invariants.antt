-- Low fits and high does not at every turn, whatever was guessed, so where they meet low is the level.
use Prim.Native.Nat.{◌+◌, ◌-◌, ◌≤◌}
use lib.ListN.{length}
use Rattle.columns.specs.Column.{col}
use Rattle.sharing.specs.Round.{top}
use Rattle.rounds.proofs.Searches.{Bracket}
use Rattle.rounds.proofs.rows.Sharers.search.Given as goal

abbrev pub invariant-loop-low : goal.invariant-loop-low
invariant-loop-low l =
    Bracket (length l.self.weights.now) (col l.self.weights.now) (col l.self.needs.now) l.capacity l.low l.high
    × (l.passes + (l.high - l.low) ≤ top)

abbrev pub decreases-loop-low : goal.decreases-loop-low
decreases-loop-low l = l.high - l.low
