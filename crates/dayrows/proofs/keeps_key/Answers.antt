-- Where the key rises the names decide.
use Rattle.dayrows.specs.Test.{passes}
use Rattle.dayrows.proofs.keeps_key.Goals as goal

pub returns-then-rises : goal.returns-then-rises
unfolding passes
returns-then-rises c =
    let is = c.row_of.ensures in
    rw (← c.rises.ensures, c.if-rises.true) (rw (is.among, is.tagged, is.begins) at c.names_are_known.ensures)

pub returns-else-rises : goal.returns-else-rises
unfolding passes
returns-else-rises c = rw (← c.rises.ensures, c.if-rises.false)
