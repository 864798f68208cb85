-- The fields of a table begin where those before it end.
use mathlib.Core.Path.{◌∙◌, ap}
use native.Mathlib.Omega.{arith}
use Rattle.dayformat.specs.Layout.{bytes_before}
use Rattle.dayformat.proofs.Every.{inside}
use Rattle.dayformat.proofs.layout.fields_place.Goals as goal

pub bytes_before-requires : goal.bytes_before-requires
bytes_before-requires c = omega (arith, c.table_place.ensures, inside c.args.tag)

pub returns : goal.returns
returns c =
    let told = c.bytes_before.ensures in (
      told.0 ∙ ap (bytes_before c.args.counts) c.table_place.ensures,
      omega (arith, told.1, c.table_place.ensures, inside c.args.tag),
    )
