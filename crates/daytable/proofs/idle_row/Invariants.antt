-- No row that the search has passed is idle.
use lib.ListN.{length}
use Rattle.columns.specs.Column.{col}
use Rattle.columns.proofs.Firsts.{Searched}
use Rattle.daytable.specs.Acceptance.{idle}
use Rattle.daytable.proofs.idle_row.Given as goal

abbrev pub invariant-loop-row : goal.invariant-loop-row
invariant-loop-row l = Searched (λ i. idle (col l.mdqs i) (col l.schedules i)) (length l.mdqs) l.row
