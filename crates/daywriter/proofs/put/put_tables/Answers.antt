use native.Mathlib.Nat.{le_antisymm}
use native.Mathlib.Omega.{arith}
use Rattle.dayformat.proofs.Sizes.{head-size}
use Rattle.daywriter.proofs.FieldLaying.{tabling_none, tabling_next, tabling_long, tabling_all}
use Rattle.daywriter.proofs.put.put_tables.Goals as goal

pub loop-place-init : goal.loop-place-init
loop-place-init c = (tabling_none _ _ _ _, omega arith)

pub put_fields-at-requires : goal.put_fields-at-requires
put_fields-at-requires c =
    omega (arith, c.loop-place.invariant.1, c.loop-place-test.true)

pub loop-place-preserved : goal.loop-place-preserved
loop-place-preserved c =
    let inv = c.loop-place.invariant in
    let told = c.put_fields-at.ensures in (
      tabling_next _ _ _ _ _ inv.0 c.tag_at.ensures told.0 told.1,
      omega (arith, inv.1, told.2),
    )

pub shape_of-block : goal.shape_of-block
shape_of-block c = tabling_long _ _ _ _ _ c.loop-place.invariant.0

pub returns : goal.returns
returns c =
    let inv = c.loop-place.invariant in
    rw head-size (tabling_all _ _ _ _ _ inv.0 (le_antisymm c.loop-place.auto.place-end c.loop-place-test.false))
