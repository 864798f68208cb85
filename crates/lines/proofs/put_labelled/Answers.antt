-- The word, then the figure where it ended.
use native.Mathlib.Omega.{arith}
use borrow.Author.Rules.{rules}
use Rattle.text.proofs.Laying.{laid_both}
use Rattle.lines.proofs.Lining.{spaced_long, laid_from}
use Rattle.lines.proofs.put_labelled.Goals as goal

pub overflow_add-from : goal.overflow_add-from
overflow_add-from c = search (rules, spaced_long _ c.put_word-length.ensures)

pub overflow_add-result : goal.overflow_add-result
overflow_add-result c = search (rules, spaced_long _ c.put_word-length.ensures)

pub returns : goal.returns
returns c = (
  laid_from _ c.min-from.ensures (laid_both c.put_word-length.ensures c.put_figure.ensures.0),
  omega (arith, spaced_long _ c.put_word-length.ensures, c.put_figure.ensures.1),
)
