-- C-14; cl. 5.4: gas excused is taken off the metered hour before the hourly and before the twelve-hourly comparison. The daily
-- overruns go on counting it. The tests are those of before, then what is excused.
use Rattle.std.specs.Prelude.{List, ◌++◌, ℕ, eqb, length, Result, Ok}
use Rattle.columns.specs.Column.{col}
use Rattle.units.specs.declared.Gigajoules.{Gigajoules}
use Rattle.units.specs.declared.Megajoules.{Megajoules}
use Rattle.units.specs.Bound.{most_hour}
use Rattle.units.specs.Refusals.{◌then◌, keep, within, Check}
use Rattle.excesses.specs.Hourly.{hourly}
use Rattle.excesses.specs.TwelveHourly.{twelve_hourly}
use Rattle.metered.specs.Singles.{mdqs_check}
use Rattle.metered.specs.Hours.{bare_hours, delivered, received, no_hours, no_sides}
use Rattle.metered.specs.Excused.{excused_check, excused_hours_check, compared}
use Rattle.overruns.specs.declared.day.Overruns.{Overruns}
use Rattle.overruns.specs.Answers.{overrun_answer}
use Rattle.overruns.specs.Hourly.{hourly_check}
use Rattle.overruns.specs.declared.day.ExcusedHours.{ExcusedHours}
use Rattle.overruns.specs.declared.day.ShipperDay.{ShipperDay}
use Rattle.overruns.specs.Day.{Hours, hours_of, overruns, day_check, day_where}
use Rattle.units.specs.declared.refusal.Refusal.{Refusal}

-- ---- the hourly overrun
unfoldable pub excused_hourly_check : Gigajoules → List (List Megajoules) → List (List Megajoules) → Check
excused_hourly_check m hours excused = hourly_check m hours then excused_hours_check hours excused

abbrev pub excused_hourly : Gigajoules → List (List Megajoules) → List (List Megajoules) → Megajoules
excused_hourly m hours excused = record {
  0 = hourly m.0 (col (compared (delivered hours) (delivered excused))) (col (compared (received hours) (received excused)));
}

abbrev pub excused_hourly_answer : Gigajoules → List (List Megajoules) → List (List Megajoules) → Result Megajoules Refusal
excused_hourly_answer m hours excused = overrun_answer (excused_hourly_check m hours excused) (excused_hourly m hours excused)

-- ---- the twelve-hourly overrun: both lists' lengths, P, M, the hours, what is excused
unfoldable pub excused_twelve_hourly_check : Gigajoules → Gigajoules → List ℕ → List ℕ → Check
excused_twelve_hourly_check p m hours excused =
    Ok tt
    then keep (eqb (length hours) 35) 9
    then keep (eqb (length excused) 35) 9
    then mdqs_check p m
    then within most_hour hours
    then excused_check hours excused

abbrev pub excused_twelve_hourly : Gigajoules → Gigajoules → List ℕ → List ℕ → Megajoules
excused_twelve_hourly p m hours excused = record { 0 = twelve_hourly p.0 m.0 (col (compared hours excused)) }

abbrev pub excused_twelve_hourly_answer : Gigajoules → Gigajoules → List ℕ → List ℕ → Result Megajoules Refusal
excused_twelve_hourly_answer p m hours excused =
    overrun_answer (excused_twelve_hourly_check p m hours excused) (excused_twelve_hourly p m hours excused)

-- ---- all four of a shipper's day
abbrev pub nothing_excused : ExcusedHours
nothing_excused = record { yesterday = no_hours 11; hours = no_sides }

-- yesterday's, delivered, received
unfoldable pub excused_day_check : ShipperDay → ExcusedHours → Check
excused_day_check D E =
    day_check D
    then excused_check (bare_hours D.yesterday) (bare_hours E.yesterday)
    then excused_hours_check D.hours E.hours

-- the hours of a day
abbrev pub hours_in : List Megajoules → List (List Megajoules) → Hours
hours_in yesterday hours = hours_of (bare_hours yesterday ++ delivered hours) hours

abbrev pub hours_compared : Hours → Hours → Hours
hours_compared metered excused = record {
  both_days = compared metered.both_days excused.both_days;
  delivered = compared metered.delivered excused.delivered;
  received = compared metered.received excused.received;
}

abbrev pub excused_day_overruns : ShipperDay → ExcusedHours → Overruns
excused_day_overruns D E =
    overruns D.p.0 D.m.0
    (hours_compared (hours_in D.yesterday D.hours) (hours_in E.yesterday E.hours))
    (hours_in D.yesterday D.hours)
    D.receipt D.delivery

abbrev pub excused_day_answer : ShipperDay → ExcusedHours → Result Overruns Refusal
excused_day_answer D E = day_where (excused_day_check D E) (excused_day_overruns D E)
