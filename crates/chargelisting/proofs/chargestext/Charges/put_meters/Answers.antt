use native.Mathlib.Omega.{arith}
use Prim.Native.Nat.{◌≤◌}
use Rattle.dayformat.specs.declared.form.Tag.TheVariants.{Meter}
use Rattle.lines.proofs.Texts.{texts_none, texts_more, texts_all, laid-long}
use Rattle.chargelisting.proofs.chargestext.Charges.put_meters.Goals as goal

pub loop-row-init : goal.loop-row-init
loop-row-init c = (omega arith, texts_none _)

pub loop-row-preserved : goal.loop-row-preserved
loop-row-preserved c =
    let now = c.loop-row in (
      omega (arith, now.invariant.0, c.put_line-size.ensures.1),
      texts_more _ now.invariant.1 (rw c.charge_figures-figures.ensures at c.put_line-size.ensures.0),
    )

pub shape_of-text : goal.shape_of-text
shape_of-text c = laid-long c.loop-row.invariant.1

pub returns : goal.returns
returns c =
    let now = c.loop-row in
    let few : c.args.self.now.day.counts.meters ≤ 64 = c.args.self.now.sound.few Meter in
    (texts_all _ now.auto.row-end c.loop-row-test.false now.invariant.1, omega (arith, now.auto.row-end, now.invariant.0, few))
