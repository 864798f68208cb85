-- The numbers of an accepted row are a side, a point and its capacity.
use mathlib.Core.Path.{sym, ◌∙◌}
use native.Mathlib.Omega.{arith}
use Rattle.dayformat.specs.Format.{column_in}
use Rattle.dayvalues.proofs.Bounds.{at_most-high}
use Rattle.dayvalues.proofs.Accepting.{row-accepted}
use Rattle.dayvalues.proofs.points.point_at.Goals as goal

pub overflow_cast-result : goal.overflow_cast-result
unfolding column_in
overflow_cast-result c =
    let row = row-accepted _ _ _ _ (sym c.check_row.ensures ∙ c.in_ok-check_row.was) in
    omega (arith, c.number_at.ensures, at_most-high _ _ _ _ _ (row 0 (omega arith)))

pub overflow_cast-result-2 : goal.overflow_cast-result-2
unfolding column_in
overflow_cast-result-2 c =
    let row = row-accepted _ _ _ _ (sym c.check_row.ensures ∙ c.in_ok-check_row.was) in
    omega (arith, c.number_at-2.ensures, at_most-high _ _ _ _ _ (row 1 (omega arith)))
