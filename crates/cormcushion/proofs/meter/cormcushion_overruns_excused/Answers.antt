-- The day's overruns are the routine's, and they are priced.

use Rattle.cormcushion.proofs.meter.cormcushion_overruns_excused.Goals as goal

pub returns : goal.returns
returns c =
    rw (c.overruns_of_day.ensures, c.shipper_day-day.ensures, c.excused_of-excused.ensures) at c.price_rated.ensures
