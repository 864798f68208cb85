-- The row's line, then the lines of its part, which is the fields of the day's entries of the point.
use native.Mathlib.Omega.{arith}
use Rattle.pointlisting.proofs.Points.{side-small, point-small, point-laid}
use Rattle.pointlisting.proofs.point.put_point.Goals as goal

pub overflow_cast-side : goal.overflow_cast-side
overflow_cast-side c = omega (arith, c.number_at-side.ensures, side-small _ _ c.args.points.now.readable.sound _ c.requires.0)

pub overflow_cast-point : goal.overflow_cast-point
overflow_cast-point c = omega (arith, c.number_at-point.ensures, (point-small _ _ c.args.points.now.readable.sound _ c.requires.0).1)

pub overflow_add-at : goal.overflow_add-at
overflow_add-at c =
    omega (arith, c.put_title-size.ensures.1, c.requires.1, c.well_formed.1.1.0)

pub returns : goal.returns
returns c = (
  point-laid _ _ _ _ c.args.points.now.readable _ c.requires.0 _ _ _ c.number_at-side.ensures c.number_at-point.ensures
      c.number_at-capacity.ensures _ c.entries_of_point-part.ensures c.put_title-size.ensures.0 c.put_hour.ensures.0,
  omega (arith, c.put_title-size.ensures.1, c.put_hour.ensures.1),
)
