-- The days are looked at where their count is within its bound.
use Rattle.units.proofs.Checks.{at_most}
use Rattle.month.proofs.examine.examine_account.Goals as goal

pub examine_figures-requires : goal.examine_figures-requires
examine_figures-requires c = at_most _ c.keep.ensures c.in_ok-keep.was

pub examine_numbers-requires : goal.examine_numbers-requires
examine_numbers-requires c = at_most _ c.keep.ensures c.in_ok-keep.was
