use mathlib.Core.Path.{◌≡◌}
use native.Mathlib.Omega.{arith}
use Prim.Native.Nat.{◌<◌}
use lib.ListN.{length, take, length-take}
use lib.Seq.{get_or-take}
use Rattle.lines.proofs.Texts.{texts_none, texts_more, texts_all, laid-long}
use Rattle.month.specs.Days.{no_day}
use Rattle.month.proofs.statement.Statement.put_days.Goals as goal

pub loop-day-init : goal.loop-day-init
loop-day-init c = (omega arith, texts_none _)

pub loop-day-preserved : goal.loop-day-preserved
loop-day-preserved c =
    let account = c.args.self.now.account in
    let now = c.loop-day in
    let few : now.day-index < account.count = omega (arith, c.loop-day-test.true, length-take account.count account.days) in (
      omega (arith, now.invariant.0, c.put_day-size.ensures.1),
      texts_more _ now.invariant.1 (rw (get_or-take account.count account.days now.day-index no_day few) at c.put_day-size.ensures.0),
    )

pub shape_of-text : goal.shape_of-text
shape_of-text c = laid-long c.loop-day.invariant.1

pub returns : goal.returns
returns c =
    let account = c.args.self.now.account in
    let now = c.loop-day in
    let long : length (take account.count account.days) ≡ account.count = omega (arith, length-take account.count account.days) in (
      texts_all _ (omega (arith, long, now.auto.day-index-end)) (omega (arith, long, c.loop-day-test.false)) now.invariant.1,
      omega (arith, long, now.auto.day-index-end, now.invariant.0, c.args.self.now.few),
    )
