-- Words and figures in turn make the line.
use native.Mathlib.Omega.{arith}
use Rattle.chargelisting.proofs.HeadLine.{head-laid}
use Rattle.chargelisting.proofs.chargestext.put_head.Goals as goal

pub returns : goal.returns
returns c = (
  head-laid _ _ c.put_labelled-size.ensures.0 c.put_word-size.ensures c.put_line.ensures.0,
  omega (arith, c.put_labelled-size.ensures.1, c.put_word-size.ensures.counts, c.put_line.ensures.1),
)
