-- The row is beyond where it is not bounded.
use Rattle.dayvalues.specs.Row.{beyond_row}
use Rattle.dayvalues.proofs.row.beyond_row.Goals as goal

pub returns-then-is_bounded : goal.returns-then-is_bounded
unfolding beyond_row
returns-then-is_bounded c =
    let is = c.row_of.ensures in
    let inside = rw (is.among, is.tagged, is.begins) at c.is_bounded.ensures in
    rw (← inside, c.if-is_bounded.true) c.count_of.ensures

pub returns : goal.returns
unfolding beyond_row
returns c =
    let is = c.row_of.ensures in
    let inside = rw (is.among, is.tagged, is.begins) at c.is_bounded.ensures in
    rw (← inside, c.if-is_bounded.false)
