use mathlib.Core.Path.{ap, ◌∙◌}
use Prim.Native.Nat.{◌*◌, ◌<◌, ◌^◌}
use native.Mathlib.Nat.{le_antisymm}
use native.Mathlib.Omega.{arith}
use Rattle.dayformat.specs.Format.{field_size}
use Rattle.dayformat.proofs.Small.{small}
use Rattle.dayformat.proofs.Sizes.{fields-small}
use Rattle.daywriter.proofs.FieldLaying.{fielding_none, fielding_next, fielding_long, fielding_all}
use Rattle.daywriter.proofs.put.put_fields.Goals as goal

pub overflow_add-size : goal.overflow_add-size
overflow_add-size c =
    omega (arith, ap (λ form. form.size) c.form_of-size.ensures, (small c.args.tag).size)

pub loop-row-init : goal.loop-row-init
loop-row-init c = fielding_none _ _ _ _ _

pub put_field-requires : goal.put_field-requires
put_field-requires c =
    let passed : c.loop-row.row * field_size c.args.tag < 2 ^ 41 =
    fields-small c.args.tag c.loop-row.row (omega (arith, c.loop-row-test.true)) in
    (c.row_place.ensures.1, omega (arith, passed, c.loop-row.invariant.ends, c.requires))

pub overflow_add-byte : goal.overflow_add-byte
overflow_add-byte c =
    let passed : c.loop-row.row * field_size c.args.tag < 2 ^ 41 =
    fields-small c.args.tag c.loop-row.row (omega (arith, c.loop-row-test.true)) in
    omega (
      arith,
      passed,
      c.loop-row.invariant.ends,
      c.requires,
      ap (λ form. form.size) c.form_of-size.ensures,
      (small c.args.tag).size,
    )

pub loop-row-preserved : goal.loop-row-preserved
loop-row-preserved c =
    fielding_next _ _ _ _ _ _ _ c.loop-row.invariant c.form_of-size.ensures c.row_place.ensures.0 c.put_field.ensures

pub shape_of-block : goal.shape_of-block
shape_of-block c = fielding_long _ _ _ _ _ _ _ c.loop-row.invariant

pub returns : goal.returns
returns c =
    let all = le_antisymm c.loop-row.auto.row-end c.loop-row-test.false ∙ c.count_of-row-end.ensures in
    let laid = fielding_all _ _ _ _ _ _ _ c.loop-row.invariant all in
    let few = fields-small c.args.tag c.loop-row.row (omega (arith, c.loop-row.auto.row-end, c.count_of-row-end.type_inv)) in
    (laid.0, laid.1, omega (arith, few, c.loop-row.invariant.ends))
