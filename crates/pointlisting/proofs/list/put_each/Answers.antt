use mathlib.Core.Path.{◌≡◌, subst}
use Prim.Native.Nat.{◌≤◌}
use native.Mathlib.Nat.{le_antisymm}
use native.Mathlib.Omega.{arith}
use Rattle.columns.specs.Column.{col, joined}
use Rattle.text.specs.Text.{Laid}
use Rattle.lines.proofs.Texts.{texts_none, texts_more, laid-long}
use Rattle.dayformat.specs.declared.form.Tag.TheVariants.{Point}
use Rattle.pointlisting.specs.PointsText.{point_lines}
use Rattle.pointlisting.proofs.list.put_each.Goals as goal

pub loop-row-init : goal.loop-row-init
loop-row-init c = (omega arith, texts_none _)

pub overflow_add-at : goal.overflow_add-at
overflow_add-at c =
    let few : c.args.points.now.day.counts.points ≤ 32 = c.args.points.now.readable.sound.few Point in
    omega (arith, c.loop-row.invariant.0, c.loop-row-test.true, few, c.requires)

pub put_point-size-requires : goal.put_point-size-requires
put_point-size-requires c =
    let few : c.args.points.now.day.counts.points ≤ 32 = c.args.points.now.readable.sound.few Point in
    let now = c.loop-row in (
      c.loop-row-test.true,
      omega (arith, now.invariant.0, c.loop-row-test.true, few, c.requires, laid-long now.invariant.1),
    )

pub overflow_add-size : goal.overflow_add-size
overflow_add-size c =
    let few : c.args.points.now.day.counts.points ≤ 32 = c.args.points.now.readable.sound.few Point in
    omega (arith, c.loop-row.invariant.0, c.loop-row-test.true, few, c.put_point-size.ensures.1)

pub loop-row-preserved : goal.loop-row-preserved
loop-row-preserved c =
    let now = c.loop-row in (
      omega (arith, now.invariant.0, c.put_point-size.ensures.1),
      texts_more _ now.invariant.1 c.put_point-size.ensures.0,
    )

pub shape_of-text : goal.shape_of-text
shape_of-text c = laid-long c.loop-row.invariant.1

pub returns : goal.returns
returns c =
    let few : c.args.points.now.day.counts.points ≤ 32 = c.args.points.now.readable.sound.few Point in
    let now = c.loop-row in
    let args = c.args in
    let all : now.row ≡ args.points.now.day.counts.points = le_antisymm now.auto.row-end c.loop-row-test.false in (
      subst (λ many. Laid (joined many (point_lines args.points.now.day.counts (col args.points.now.numbers.now))) args.text.now args.at
          now.size now.text) all now.invariant.1,
      omega (arith, now.invariant.0, all, few),
    )
