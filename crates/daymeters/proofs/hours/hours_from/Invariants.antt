-- What is written so far are the first hours, so at the end they are all of them.
use Prim.Native.Nat.{◌+◌}
use Rattle.columns.specs.Column.{col}
use Rattle.dayvalues.specs.Row.{number_at}
use Rattle.daymeters.proofs.Writing.{Writing}
use Rattle.daymeters.proofs.hours.hours_from.Given as goal

abbrev pub invariant-loop-hour : goal.invariant-loop-hour
invariant-loop-hour g l =
    Writing l.initial.hours g.row.N (λ i. number_at l.tables.counts (col l.tables.numbers.now) l.tag l.row (l.at + i)) l.hour l.hours
