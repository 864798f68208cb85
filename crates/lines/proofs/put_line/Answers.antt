-- As many figures as a line may have, from the block's end where the place is past it.
use native.Mathlib.Omega.{arith}
use Rattle.lines.proofs.Lining.{few-long, few-most, few-laid}
use Rattle.lines.proofs.put_line.Goals as goal

pub slice_bounds-put_figures-end : goal.slice_bounds-put_figures-end
slice_bounds-put_figures-end c = few-long _ _ c.min-many.ensures

pub put_figures-requires : goal.put_figures-requires
put_figures-requires c =
    (few-most _ _ c.min-many.ensures, omega (arith, c.min-from.ensures))

pub returns : goal.returns
returns c =
    (few-laid _ _ c.min-many.ensures _ c.min-from.ensures c.put_figures.ensures.0, c.put_figures.ensures.1)
