use mathlib.Core.Path.{◌≡◌, sym, ◌∙◌}
use mathlib.Core.Bool.{true≢false}
use native.Mathlib.Omega.{arith}
use borrow.Author.Rules.{rules}
use borrow.Author.Tests.{le-ltb}
use lib.ListN.{length}
use Rattle.columns.proofs.Firsts.{searched_none, searched_more, ends}
use Rattle.units.proofs.Checks.{accepts-clear}
use Rattle.metered.specs.Hours.{bare_hours}
use Rattle.metered.specs.Excused.{both_have}
use Rattle.metered.proofs.Rows.{figure_at, length-figures}
use Rattle.metered.proofs.excused.row_keeps.Goals as goal
use Rattle.metered.proofs.excused.row_keeps.Goals.{then-metered-hour, else-metered-hour}

pub loop-hour-init : goal.loop-hour-init
loop-hour-init c = λ e. searched_none _ _

pub loop-hour-preserved : goal.loop-hour-preserved
loop-hour-preserved c = λ e. elim c.if-metered-hour.branch [
  | then-metered-hour w ↦ absurd (true≢false (sym e ∙ w.kept-is))
  | else-metered-hour w ↦
      let rows = c.args in
      searched_more _ _ _ (c.loop-hour.invariant (sym w.kept-is ∙ e)) c.loop-hour-test.true
      (rw (← figure_at rows.metered c.loop-hour.hour, ← figure_at rows.excused c.loop-hour.hour)
      (le-ltb _ _ w.if-metered-hour.false))
]

pub returns : goal.returns
returns c =
    let long : (length c.args.metered ≡ 24) × (length c.args.excused ≡ 24) = (search rules, search rules) in
    λ e.
    let rows = c.args in
    let both : both_have (bare_hours rows.metered) (bare_hours rows.excused) ≡ 24 =
    omega (arith, length-figures rows.metered, length-figures rows.excused, long) in
    accepts-clear _ _ _ (rw both (omega (arith, ends _ _ _ (c.loop-hour.invariant e) c.loop-hour-test.false, c.loop-hour-test.false)))
