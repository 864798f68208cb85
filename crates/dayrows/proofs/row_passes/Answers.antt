-- The test says which answer is asked for.

use Rattle.dayrows.proofs.row_passes.Goals as goal

pub returns-in-Bounds : goal.returns-in-Bounds
returns-in-Bounds c = rw c.in-Bounds.is c.keeps_bounds.ensures

pub returns-in-Key : goal.returns-in-Key
returns-in-Key c = rw c.in-Key.is c.keeps_key.ensures

pub returns-in-Mdq : goal.returns-in-Mdq
returns-in-Mdq c = rw c.in-Mdq.is c.keeps_mdq.ensures
