use mathlib.Core.Path.{sym, ◌∙◌}
use mathlib.Core.Bool.{true≢false}
use Prim.Native.Nat.{◌≤◌}
use native.Mathlib.Nat.{le_antisymm}
use native.Mathlib.Omega.{arith}
use borrow.Author.Tests.{le-ltb}
use Rattle.columns.proofs.Firsts.{searched_none, searched_more, ends}
use Rattle.metered.specs.Excused.{both_have}
use Rattle.metered.proofs.excused.excused_keep.Goals as goal
use Rattle.metered.proofs.excused.excused_keep.Goals.{then-metered-hour, else-metered-hour}

pub loop-hour-init : goal.loop-hour-init
loop-hour-init c = (λ e. searched_none _ _, c.min-hour-end.ensures)

pub loop-hour-preserved : goal.loop-hour-preserved
loop-hour-preserved c =
    let now = c.loop-hour in (
      λ e. elim c.if-metered-hour.branch [
        | then-metered-hour w ↦ absurd (true≢false (sym e ∙ w.kept-is))
        | else-metered-hour w ↦
            searched_more _ _ _ (now.invariant.0 (sym w.kept-is ∙ e)) (omega (arith, c.loop-hour-test.true, now.invariant.1))
            (le-ltb _ _ w.if-metered-hour.false)
      ],
      now.invariant.1,
    )

pub returns : goal.returns
returns c = λ e.
    let now = c.loop-hour in
    let args = c.args in
    let S = now.invariant.0 e in
    let all : both_have args.metered.now args.excused.now ≤ now.hour = omega (arith, c.loop-hour-test.false, now.invariant.1) in
    le_antisymm all S.inside ∙ ends _ _ _ S all
