-- The greatest is the greater of the greater of two and the greater of the other two.
use mathlib.Core.Path.{ap, ◌∙◌}
use Rattle.overruns.proofs.WholeDay.{same-overruns}
use Rattle.overruns.proofs.day.four_overruns.Goals as goal

pub returns : goal.returns
returns c =
    same-overruns _ _ _ _ _ c.hourly-over_hours.ensures c.twelve_hourly-over_periods.ensures
    (ap (λ x. x.receipt.0) c.both_daily-daily.ensures)
    (ap (λ x. x.delivery.0) c.both_daily-daily.ensures)
    (c.greater-3.ensures ∙ rw (c.greater.ensures, c.greater-2.ensures))
