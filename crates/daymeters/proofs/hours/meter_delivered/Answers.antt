-- Acceptance gives the loop its room.
use Rattle.units.proofs.Checks.{at_most}
use Rattle.daymeters.proofs.hours.meter_delivered.Goals as goal

pub fill_delivered-requires : goal.fill_delivered-requires
fill_delivered-requires c = at_most _ c.keep.ensures c.in_ok-keep.was
