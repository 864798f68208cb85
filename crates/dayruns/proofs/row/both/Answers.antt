-- The second counts where the first holds.

use Rattle.dayruns.proofs.row.both.Goals as goal

pub returns-then-x : goal.returns-then-x
returns-then-x c = rw c.if-x.true

pub returns : goal.returns
returns c = rw c.if-x.false
