-- A line for each day that the loop has gone over stands from the place on.
use Prim.Native.Nat.{◌*◌, ◌≤◌}
use Rattle.text.specs.Text.{Laid}
use Rattle.month.specs.Account.{day_at}
use Rattle.month.specs.Statement.{statement_lines}
use Rattle.month.proofs.statement.Statement.put_days.Given as goal

abbrev pub invariant-loop-day : goal.invariant-loop-day
invariant-loop-day l =
    (l.size ≤ 2068 * l.day-index) × Laid (statement_lines l.day-index (day_at l.fn.self.account)) l.initial.text l.at l.size l.text
