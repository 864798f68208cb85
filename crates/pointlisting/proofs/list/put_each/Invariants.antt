-- The lines of each point that the loop has gone over stand from the place on.
use Prim.Native.Nat.{◌*◌, ◌^◌, ◌≤◌}
use Rattle.columns.specs.Column.{col, joined}
use Rattle.text.specs.Text.{Laid}
use Rattle.pointlisting.specs.PointsText.{point_lines}
use Rattle.pointlisting.proofs.list.put_each.Given as goal

abbrev pub invariant-loop-row : goal.invariant-loop-row
invariant-loop-row l =
    (l.size ≤ 2 ^ 21 * l.row)
    × Laid (joined l.row (point_lines l.points.day.counts (col l.points.numbers.now))) l.initial.text l.at l.size l.text
