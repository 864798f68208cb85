-- What is written so far are the row's first figures, so at the end they are all of them.
use Prim.Native.Nat.{◌≤◌}
use Rattle.columns.specs.Column.{col}
use Rattle.columns.proofs.Lists.{Filling}
use Rattle.metered.specs.Hours.{bare_hours}
use Rattle.metered.proofs.hours.numbers_of.Given as goal

abbrev pub invariant-loop-hour : goal.invariant-loop-hour
invariant-loop-hour g l = (l.hour ≤ g.row.N) × Filling l.initial.numbers (col (bare_hours l.row)) l.hour l.numbers
