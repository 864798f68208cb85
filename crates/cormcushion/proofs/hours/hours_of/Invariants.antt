-- What is written so far are the first hours, so at the end they are all of them.
use Rattle.columns.specs.Column.{col}
use Rattle.daymeters.proofs.Writing.{Writing}
use Rattle.cormcushion.proofs.hours.hours_of.Given as goal

abbrev pub invariant-loop-hour : goal.invariant-loop-hour
invariant-loop-hour g l = Writing l.initial.hours g.row.N (col l.figures) l.hour l.hours
