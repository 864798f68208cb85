-- The last day is looked at where there is room for one more.
use native.Mathlib.Omega.{arith}
use Rattle.units.proofs.Checks.{below}
use Rattle.month.proofs.examine.examine_next.Goals as goal

pub examine_later-requires : goal.examine_later-requires
examine_later-requires c = omega (arith, below _ c.keep.ensures c.in_ok-keep.was)
