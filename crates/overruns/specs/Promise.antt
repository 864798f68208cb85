-- 01, "Overruns of a day": what the overruns of every answer keep, whatever the input.
use Rattle.std.specs.Prelude.{◌≤◌}
use Rattle.units.specs.Bound.{most_chargeable}
use Rattle.excesses.specs.Hourly.{most_hourly}
use Rattle.excesses.specs.TwelveHourly.{most_twelve_hourly}
use Rattle.excesses.specs.Greatest.{Greatest}
use Rattle.overruns.specs.declared.daily.Daily.{Daily}
use Rattle.overruns.specs.declared.day.Overruns.{Overruns}
use Rattle.overruns.specs.Daily.{most_daily}

-- both daily overruns are at most what they can be
pub record DailyKept (over : Daily) : Type 0 where
  pub receipt : over.receipt.0 ≤ most_daily
  pub delivery : over.delivery.0 ≤ most_daily

-- all four are at most what they can be, and the greatest can be charged
pub record DayKept (over : Overruns) : Type 0 where
  pub hourly : over.hourly.0 ≤ most_hourly
  pub twelve_hourly : over.twelve_hourly.0 ≤ most_twelve_hourly
  pub receipt : over.daily_receipt.0 ≤ most_daily
  pub delivery : over.daily_delivery.0 ≤ most_daily
  pub greatest :
      Greatest over.hourly.0 over.twelve_hourly.0 over.daily_receipt.0 over.daily_delivery.0 over.greatest.0
  pub chargeable : over.greatest.0 ≤ most_chargeable
