-- TOTAL, and the seven sums where it ends.
use native.Mathlib.Omega.{arith}
use Rattle.lines.proofs.Lining.{line_word}
use Rattle.month.specs.Statement.{total_word}
use Rattle.month.proofs.statement.put_total.Goals as goal

pub returns : goal.returns
returns c = (
  line_word total_word _ _ c.put_word-size.ensures (rw c.numbers_of.ensures at c.put_line.ensures.0),
  omega (arith, c.put_word-size.ensures.counts, c.put_line.ensures.1),
)
