-- The point is the second of an entry's four numbers.

use Rattle.pointentries.proofs.is_of.Goals as goal

pub returns : goal.returns
returns c = rw c.number_of.ensures
