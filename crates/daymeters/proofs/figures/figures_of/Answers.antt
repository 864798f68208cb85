-- The first number of an accepted row is a shipper; P, M and both sides follow.
use native.Mathlib.Omega.{arith}
use Rattle.dayformat.specs.Format.{column_in}
use Rattle.dayvalues.proofs.Bounds.{at_most-high}
use Rattle.daymeters.proofs.Bounds.{mdq-most}
use Rattle.daymeters.proofs.figures.figures_of.Goals as goal

pub overflow_cast-result : goal.overflow_cast-result
unfolding column_in
overflow_cast-result c = omega (arith, c.number_at-shipper.ensures, at_most-high _ _ _ _ _ (c.requires 0 (omega arith)))

pub gigajoules_at-requires : goal.gigajoules_at-requires
gigajoules_at-requires c = mdq-most _ _ _ c.requires _ (omega arith) (omega arith)

pub gigajoules_at-requires-2 : goal.gigajoules_at-requires-2
gigajoules_at-requires-2 c = mdq-most _ _ _ c.requires _ (omega arith) (omega arith)

pub returns : goal.returns
returns c =
    rw (
      c.side_of-2.ensures,
      c.side_of.ensures,
      ← c.gigajoules_at-2.ensures,
      ← c.gigajoules_at.ensures,
      c.number_at-shipper.ensures,
    )
