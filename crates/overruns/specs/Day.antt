-- 01, "Overruns of a day": all four of a shipper's day, and the greatest of them (cl. 7.2).
use Rattle.std.specs.Prelude.{List, ◌++◌, ℕ, Result, Ok, Err}
use Rattle.columns.specs.Column.{col}
use Rattle.units.specs.declared.Gigajoules.{Gigajoules}
use Rattle.units.specs.declared.Megajoules.{Megajoules}
use Rattle.units.specs.Bound.{most_hour}
use Rattle.units.specs.Refusals.{◌then◌, within, Check}
use Rattle.units.specs.Verdict.{Verdict, accepting, refusing}
use Rattle.excesses.specs.Hourly.{hourly}
use Rattle.excesses.specs.TwelveHourly.{twelve_hourly}
use Rattle.excesses.specs.Greatest.{greatest}
use Rattle.metered.specs.declared.Side.{Side}
use Rattle.metered.specs.Singles.{mdqs_check, sides_check}
use Rattle.metered.specs.Hours.{bare_hours, delivered, received, hours_check}
use Rattle.overruns.specs.declared.day.ShipperDay.{ShipperDay}
use Rattle.overruns.specs.declared.day.Overruns.{Overruns}
use Rattle.overruns.specs.Daily.{daily}
use Rattle.units.specs.declared.refusal.Refusal.{Refusal}

-- a day's hours: 35 delivered ones of both days, yesterday's 11 first, and today's 24 of each side
pub record Hours : Type 0 where
  pub both_days : List ℕ
  pub delivered : List ℕ
  pub received : List ℕ

-- the four, in 01's order, and the greatest
abbrev pub with_greatest : ℕ → ℕ → ℕ → ℕ → Overruns
with_greatest hourly twelve_hourly receipt delivery = record {
  hourly = record { 0 = hourly };
  twelve_hourly = record { 0 = twelve_hourly };
  daily_receipt = record { 0 = receipt };
  daily_delivery = record { 0 = delivery };
  greatest = record { 0 = greatest hourly twelve_hourly receipt delivery };
}

-- hourly and twelve-hourly overruns count the hours compared with their limits, daily ones the hours metered: two arguments, since
-- the Terms excuse gas from a limit (cl. 5.4, ExcusedHours.antt) and never from the day's total; 01 excuses nothing (`all_compared`)
abbrev pub overruns : ℕ → ℕ → Hours → Hours → Side → Side → Overruns
overruns p m compared metered receipt delivery =
    with_greatest
    (hourly m (col compared.delivered) (col compared.received))
    (twelve_hourly p m (col compared.both_days))
    (daily (col metered.received) receipt)
    (daily (col metered.delivered) delivery)

abbrev pub hours_of : List ℕ → List (List Megajoules) → Hours
hours_of both_days hours = record { both_days = both_days; delivered = delivered hours; received = received hours }

-- single figures, then yesterday's hours, delivered, received
unfoldable pub day_check : ShipperDay → Check
day_check D =
    mdqs_check D.p D.m
    then sides_check D.receipt D.delivery
    then within most_hour (bare_hours D.yesterday)
    then hours_check D.hours

abbrev pub day_where : Check → Overruns → Result Overruns Refusal
day_where (Ok _) over = Ok over
day_where (Err x) over = Err x

-- every metered hour is compared
abbrev pub all_compared : Gigajoules → Gigajoules → List ℕ → List (List Megajoules) → Side → Side → Overruns
all_compared p m both_days hours receipt delivery =
    overruns p.0 m.0 (hours_of both_days hours) (hours_of both_days hours) receipt delivery

abbrev pub day_overruns : ShipperDay → Overruns
day_overruns D =
    all_compared D.p D.m (bare_hours D.yesterday ++ delivered D.hours) D.hours D.receipt D.delivery

abbrev pub day_answer : ShipperDay → Result Overruns Refusal
day_answer D = day_where (day_check D) (day_overruns D)

-- 01's number, place and figures of each case
abbrev pub day_verdict : Result Overruns Refusal → Verdict Overruns
day_verdict (Ok over) = accepting over
day_verdict (Err x) = refusing x (with_greatest 0 0 0 0)
