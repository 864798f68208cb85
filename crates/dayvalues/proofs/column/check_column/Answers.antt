-- The tests of a column are those of its place.

use Rattle.dayvalues.proofs.column.check_column.Goals as goal

pub returns : goal.returns
returns c = rw (c.examine_column.ensures, c.place_of.ensures.0)
