-- The title, then the line of number and place where it ended.
use native.Mathlib.Omega.{arith}
use Rattle.lines.proofs.Lining.{refusal-laid}
use Rattle.lines.proofs.put_refusal.Goals as goal

pub returns : goal.returns
returns c = (
  refusal-laid c.args.refusal _ c.min-from.ensures c.put_word-title.ensures c.put_line.ensures.0,
  omega (arith, c.put_word-title.ensures.counts, c.put_line.ensures.1),
)
