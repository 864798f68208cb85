-- The day's overruns are the routine's, and they are priced.

use Rattle.cormcushion.proofs.meter.cormcushion_overruns.Goals as goal

pub returns : goal.returns
returns c = rw (c.metered_overruns.ensures, c.shipper_day-day.ensures) at c.price_rated.ensures
