-- A number is beyond its bounds where it is not within them.
use Rattle.dayvalues.specs.Row.{beyond}
use Rattle.dayvalues.proofs.row.is_beyond.Goals as goal

pub returns : goal.returns
unfolding beyond
returns c = rw (← c.column_at.ensures, ← c.number_at-number.ensures, ← c.is_within.ensures)
