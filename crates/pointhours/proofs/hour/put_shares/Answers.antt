use mathlib.Core.Path.{◌≡◌}
use native.Mathlib.Nat.{le_antisymm}
use native.Mathlib.Omega.{arith}
use Rattle.lines.proofs.Texts.{texts_none, texts_more, laid-long}
use Rattle.pointhours.proofs.hour.put_shares.Goals as goal

pub loop-entry-init : goal.loop-entry-init
loop-entry-init c = (omega arith, texts_none _)

pub loop-entry-preserved : goal.loop-entry-preserved
loop-entry-preserved c =
    let now = c.loop-entry in (
      omega (arith, now.invariant.0, c.put_line-size.ensures.1),
      texts_more _ now.invariant.1 (rw (← c.shipper_in.ensures) c.put_line-size.ensures.0),
    )

pub shape_of-text : goal.shape_of-text
shape_of-text c = laid-long c.loop-entry.invariant.1

pub returns : goal.returns
returns c =
    let now = c.loop-entry in
    let all : c.entries_in-many.result ≡ now.entry = le_antisymm c.loop-entry-test.false now.auto.entry-end in
    (rw (← c.entries_in-many.ensures.0, all) now.invariant.1, omega (arith, now.invariant.0, all, c.entries_in-many.ensures.1))
