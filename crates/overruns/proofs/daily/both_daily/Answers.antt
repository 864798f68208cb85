-- Each side's overrun is that of its own row and figures.
use Rattle.overruns.proofs.daily.both_daily.Goals as goal

pub returns : goal.returns
returns c = rw (← c.above_schedules.ensures, ← c.above_schedules-2.ensures)
