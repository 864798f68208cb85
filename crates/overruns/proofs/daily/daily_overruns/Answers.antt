-- The overruns are worked out where both sides' figures and every hour are within their bounds.
use mathlib.Core.Path.{sym, ◌∙◌}
use Rattle.overruns.proofs.Accepting.{daily-accepting}
use Rattle.overruns.proofs.daily.daily_overruns.Goals as goal

pub both_daily-requires : goal.both_daily-requires
both_daily-requires c = daily-accepting _ _ _ (sym c.examine.ensures ∙ c.in_ok-examine.was)
