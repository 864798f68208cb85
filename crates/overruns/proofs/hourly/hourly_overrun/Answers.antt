-- The overrun is worked out where M and every hour are within their bounds, and what is excused within the hour.
use mathlib.Core.Path.{sym, ◌∙◌}
use Rattle.overruns.proofs.Accepting.{hourly-accepting}
use Rattle.overruns.proofs.hourly.hourly_overrun.Goals as goal

pub hourly-requires : goal.hourly-requires
hourly-requires c = hourly-accepting _ _ _ (sym c.examine.ensures ∙ c.in_ok-examine.was)
