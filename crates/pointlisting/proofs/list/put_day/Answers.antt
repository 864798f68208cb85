-- The word and the figure in turn make the line.
use native.Mathlib.Omega.{arith}
use Rattle.lines.proofs.Lining.{line_word}
use Rattle.pointlisting.proofs.list.put_day.Goals as goal

pub returns : goal.returns
returns c = (
  line_word _ _ _ c.put_word-size.ensures c.put_line.ensures.0,
  omega (arith, c.put_word-size.ensures.counts, c.put_line.ensures.1),
)
