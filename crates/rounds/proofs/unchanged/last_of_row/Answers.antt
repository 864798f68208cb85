-- The division answers only where a higher level gives the row more; the law says what it answers.
use native.Mathlib.Omega.{arith}
use Rattle.rounds.proofs.Unchanging.{weighted, last-same}
use Rattle.rounds.proofs.unchanged.last_of_row.Goals as goal

pub nonzero_div-result : goal.nonzero_div-result
nonzero_div-result c =
    let row = c.args in
    weighted row.weight row.need row.last (omega arith)

pub returns : goal.returns
returns c = last-same _ _ _ _ _ c.share_at-share.ensures (omega arith)
