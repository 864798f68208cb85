-- A row's numbers stand one after another from its place on.

use Rattle.dayvalues.proofs.row.number_at.Goals as goal

pub returns : goal.returns
returns c = rw (← c.row_place.ensures.0) c.number_of.ensures
