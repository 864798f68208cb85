-- The day's number, and its figures where it ends.
use native.Mathlib.Omega.{arith}
use Rattle.lines.proofs.Lining.{line_word}
use Rattle.month.proofs.statement.put_day.Goals as goal

pub returns : goal.returns
returns c = (
  line_word _ _ _ c.put_figure-size.ensures.0 (rw c.numbers_of.ensures at c.put_line.ensures.0),
  omega (arith, c.put_figure-size.ensures.1, c.put_line.ensures.1),
)
