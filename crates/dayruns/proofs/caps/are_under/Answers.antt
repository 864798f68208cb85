use mathlib.Core.Path.{sym, ◌∙◌}
use mathlib.Core.Bool.{true≢false}
use borrow.Author.Tests.{le-ltb}
use Rattle.columns.proofs.Firsts.{searched_none, searched_more}
use Rattle.dayrows.specs.Test.{all_under}
use Rattle.dayrows.proofs.Searches.{clear}
use Rattle.dayruns.proofs.caps.are_under.Goals as goal
use Rattle.dayruns.proofs.caps.are_under.Goals.{then-numbers-other, else-numbers-other}

pub loop-place-init : goal.loop-place-init
loop-place-init c = λ e. searched_none _ _

pub loop-place-preserved : goal.loop-place-preserved
loop-place-preserved c = λ e. elim c.if-numbers-other.branch [
  | then-numbers-other w ↦ absurd (true≢false (sym e ∙ w.kept-is))
  | else-numbers-other w ↦
      searched_more _ _ _ (c.loop-place.invariant (sym w.kept-is ∙ e)) c.loop-place-test.true (le-ltb _ _ w.if-numbers-other.false)
]

pub returns : goal.returns
unfolding all_under
returns c = λ e. clear _ _ _ (c.loop-place.invariant e) c.loop-place-test.false
