-- A side's figures stand two places apart.
use native.Mathlib.Omega.{arith}
use Rattle.daymeters.proofs.Bounds.{schedule-most}
use Rattle.daymeters.proofs.figures.side_of.Goals as goal

pub gigajoules_at-requires : goal.gigajoules_at-requires
gigajoules_at-requires c = let pre = c.requires in schedule-most _ _ _ pre.0 _ (omega arith) (omega (arith, pre.1))

pub gigajoules_at-requires-2 : goal.gigajoules_at-requires-2
gigajoules_at-requires-2 c = let pre = c.requires in schedule-most _ _ _ pre.0 _ (omega arith) (omega (arith, pre.1))

pub returns : goal.returns
returns c =
    rw (← c.megajoules_at.ensures, ← c.gigajoules_at-2.ensures, ← c.gigajoules_at.ensures)
