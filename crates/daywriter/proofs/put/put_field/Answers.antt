-- Tag, length and body, each where the one before ended.
use mathlib.Core.Path.{ap}
use native.Mathlib.Omega.{arith}
use Rattle.dayformat.proofs.Small.{small}
use Rattle.daywriter.proofs.FieldLaying.{field-laid}
use Rattle.daywriter.proofs.put.put_field.Goals as goal

pub overflow_cast-form-2 : goal.overflow_cast-form-2
overflow_cast-form-2 c =
    omega (arith, ap (λ form. form.size) c.form_of-form.ensures, (small c.args.tag).size)

pub returns : goal.returns
returns c =
    let args = c.args in
    field-laid args.tag _ args.block.now args.at c.form_of-form.ensures c.put_number.ensures
    c.put_number-2.ensures c.put_body.ensures
