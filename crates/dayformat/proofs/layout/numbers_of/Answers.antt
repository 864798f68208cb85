-- All tables together.
use native.Mathlib.Omega.{arith}
use Rattle.dayformat.specs.Format.{many_tables}
use Rattle.dayformat.proofs.Small.{columns_few}
use Rattle.dayformat.proofs.layout.numbers_of.Goals as goal

pub returns : goal.returns
returns c =
    let told = c.numbers_before.ensures in
    (told.0, omega (arith, told.1, columns_few many_tables (omega arith)))
