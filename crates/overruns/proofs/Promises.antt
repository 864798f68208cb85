-- The overruns of every answer are within what they can be: where the tests accept by the bounds of what is metered, else they are zero.
use Rattle.std.specs.Prelude.{Result, Ok}
use mathlib.Core.Path.{◌≡◌, refl}
use mathlib.Core.List.{List}
use Prim.Native.Nat.{ℕ, ◌≤◌}
use native.Mathlib.Omega.{arith}
use Rattle.units.specs.declared.Gigajoules.{Gigajoules}
use Rattle.units.specs.declared.Megajoules.{Megajoules}
use Rattle.units.proofs.Verdicts.{every-figure}
use Rattle.excesses.specs.Hourly.{most_hourly}
use Rattle.excesses.specs.TwelveHourly.{most_twelve_hourly}
use Rattle.excesses.proofs.Excesses.{hourly_mono}
use Rattle.excesses.proofs.Periods.{twelve_hourly_mono}
use Rattle.excesses.proofs.Greatest.{hourly-most, twelve_hourly-most, greatest_of}
use Rattle.metered.specs.declared.Side.{Side}
use Rattle.metered.specs.Hours.{delivered, received}
use Rattle.metered.proofs.Comparing.{compared-most}
use Rattle.overruns.specs.declared.day.Overruns.{Overruns}
use Rattle.overruns.specs.Answers.{overrun_verdict}
use Rattle.overruns.specs.Daily.{both_daily, daily_check, daily_answer, daily_verdict}
use Rattle.overruns.specs.declared.day.ShipperDay.{ShipperDay}
use Rattle.overruns.specs.Day.{with_greatest, day_overruns, day_verdict}
use Rattle.overruns.specs.Excused.{excused_hourly_answer, excused_twelve_hourly_answer}
use Rattle.overruns.specs.declared.day.ExcusedHours.{ExcusedHours}
use Rattle.overruns.specs.Excused.{hours_in, excused_day_check, excused_day_overruns, excused_day_answer}
use Rattle.overruns.specs.Promise.{DailyKept, DayKept}
use Rattle.overruns.proofs.Accepting.{hourly-accepting, twelve_hourly-accepting, daily-accepting, excused-day-accepting}
use Rattle.overruns.proofs.Days.{daily-most}
use Rattle.overruns.proofs.Decided.{hourly_decided, twelve_hourly_decided, daily_decided, excused-day_decided}
use Rattle.overruns.specs.declared.daily.Daily.{Daily}
use Rattle.units.specs.declared.refusal.Refusal.{Refusal}

pub hourly-kept : (m : Gigajoules) (hours excused : List (List Megajoules)) {over : Result Megajoules Refusal}
    → over ≡ excused_hourly_answer m hours excused → (overrun_verdict over).figures.0 ≤ most_hourly
hourly-kept m hours excused is =
    every-figure (λ over. over.0 ≤ most_hourly) (hourly_decided m hours excused is)
    (λ accepted. hourly-most m.0 _ _ (hourly-accepting m hours excused accepted)) (omega arith)

pub twelve_hourly-kept : (p m : Gigajoules) (hours excused : List ℕ) {over : Result Megajoules Refusal}
    → over ≡ excused_twelve_hourly_answer p m hours excused → (overrun_verdict over).figures.0 ≤ most_twelve_hourly
twelve_hourly-kept p m hours excused is =
    every-figure (λ over. over.0 ≤ most_twelve_hourly) (twelve_hourly_decided p m hours excused is)
    (λ accepted. twelve_hourly-most p.0 m.0 _ (twelve_hourly-accepting p m hours excused accepted).2) (omega arith)

module _ (hours : List (List Megajoules)) (receipt delivery : Side) where
  both-kept : daily_check hours receipt delivery ≡ Ok tt
      → DailyKept (both_daily (delivered hours) (received hours) receipt delivery)
  both-kept accepted =
      let a = daily-accepting hours receipt delivery accepted in
      record {
        receipt = daily-most (received hours) receipt a.0.1 a.1.0;
        delivery = daily-most (delivered hours) delivery a.0.0 a.1.1;
      }

  pub daily-kept : {over : Result Daily Refusal} → over ≡ daily_answer hours receipt delivery → DailyKept (daily_verdict over).figures
  daily-kept is = every-figure DailyKept (daily_decided hours receipt delivery is) both-kept (omega arith)

-- ---- all four of a day
no_overruns : DayKept (with_greatest 0 0 0 0)
no_overruns = record {
  hourly = omega arith;
  twelve_hourly = omega arith;
  receipt = omega arith;
  delivery = omega arith;
  greatest = greatest_of 0 0 0 0;
  chargeable = omega arith;
}

module _ (D : ShipperDay) (E : ExcusedHours) where
  all-kept : excused_day_check D E ≡ Ok tt → DayKept (excused_day_overruns D E)
  all-kept accepted =
      let a = excused-day-accepting D E accepted in
      let m = a.metered in
      let h = hourly-most D.m.0 _ _ a.rows in
      let t = twelve_hourly-most D.p.0 D.m.0 _ a.both_days in
      let r = daily-most (received D.hours) D.receipt m.rows.1 m.backhaul.0 in
      let d = daily-most (delivered D.hours) D.delivery m.rows.0 m.backhaul.1 in
      record {
        hourly = h;
        twelve_hourly = t;
        receipt = r;
        delivery = d;
        greatest = greatest_of _ _ _ _;
        chargeable = omega arith;
      }

  pub excused-day-kept : {over : Result Overruns Refusal} → over ≡ excused_day_answer D E → DayKept (day_verdict over).figures
  excused-day-kept is = every-figure DayKept (excused-day_decided D E is) all-kept no_overruns

-- ---- gas excused never raises an overrun, and the daily ones count it
module _ (D : ShipperDay) (E : ExcusedHours) where
  abbrev over : Overruns
  over = excused_day_overruns D E

  abbrev former : Overruns
  former = day_overruns D

  pub hourly_lessened : over.hourly.0 ≤ former.hourly.0
  hourly_lessened =
      hourly_mono D.m.0 _ _ _ _ (compared-most (delivered D.hours) (delivered E.hours))
      (compared-most (received D.hours) (received E.hours))

  pub twelve_hourly_lessened : over.twelve_hourly.0 ≤ former.twelve_hourly.0
  twelve_hourly_lessened =
      let metered = hours_in D.yesterday D.hours in
      let excused = hours_in E.yesterday E.hours in
      twelve_hourly_mono D.p.0 D.m.0 _ _ (compared-most metered.both_days excused.both_days)

  pub daily_alike : (over.daily_receipt ≡ former.daily_receipt) × (over.daily_delivery ≡ former.daily_delivery)
  daily_alike = (refl, refl)
