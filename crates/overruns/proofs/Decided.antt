-- The tests decide an answer of each routine: number 0 exactly where they accept, zeros where they refuse.
use Rattle.std.specs.Prelude.{Result}
use mathlib.Core.Path.{◌≡◌, refl}
use mathlib.Core.List.{List}
use Prim.Native.Nat.{ℕ}
use Rattle.units.specs.declared.Gigajoules.{Gigajoules}
use Rattle.units.specs.declared.Megajoules.{Megajoules}
use Rattle.units.specs.Verdict.{Decided}
use Rattle.units.proofs.Verdicts.{AllNumbered, none, ◌and◌, kept_by, cleared_by, decided}
use Rattle.metered.specs.declared.Side.{Side}
use Rattle.metered.specs.Hours.{bare_hours, delivered, received}
use Rattle.metered.proofs.Decided.{rows_numbered, mdqs_numbered, sides_numbered, excused_numbered, excused_hours_numbered}
use Rattle.overruns.specs.Answers.{overrun_answer, overrun_verdict}
use Rattle.overruns.specs.Hourly.{hourly_check}
use Rattle.overruns.specs.Daily.{both_daily, daily_check, daily_where, daily_answer, daily_verdict}
use Rattle.overruns.specs.declared.day.ShipperDay.{ShipperDay}
use Rattle.overruns.specs.Day.{with_greatest, day_overruns, day_check, day_where, day_answer, day_verdict}
use Rattle.overruns.specs.Excused.{excused_hourly_check, excused_hourly, excused_hourly_answer}
use Rattle.overruns.specs.Excused.{excused_twelve_hourly_check, excused_twelve_hourly, excused_twelve_hourly_answer}
use Rattle.overruns.specs.declared.day.ExcusedHours.{ExcusedHours}
use Rattle.overruns.specs.Excused.{excused_day_check, excused_day_overruns, excused_day_answer}
use Rattle.overruns.specs.declared.daily.Daily.{Daily}
use Rattle.overruns.specs.declared.day.Overruns.{Overruns}
use Rattle.units.specs.declared.refusal.Refusal.{Refusal}

module _ (m : Gigajoules) (hours excused : List (List Megajoules)) where
  pub hourly_numbered : AllNumbered (excused_hourly_check m hours excused)
  unfolding hourly_check excused_hourly_check
  hourly_numbered = none and kept_by _ 3 tt tt and rows_numbered hours and excused_hours_numbered hours excused

  pub hourly_decided : {over : Result Megajoules Refusal} → over ≡ excused_hourly_answer m hours excused
      → Decided (excused_hourly_check m hours excused) (excused_hourly m hours excused) (record { 0 = 0 }) (overrun_verdict over)
  hourly_decided = decided overrun_answer overrun_verdict refl (λ refusal. refl) hourly_numbered

module _ (p m : Gigajoules) (hours excused : List ℕ) where
  pub twelve_hourly_numbered : AllNumbered (excused_twelve_hourly_check p m hours excused)
  unfolding excused_twelve_hourly_check
  twelve_hourly_numbered =
      none
      and kept_by _ 9 tt tt
      and kept_by _ 9 tt tt
      and mdqs_numbered p m
      and cleared_by _ _ 3 tt tt
      and excused_numbered hours excused

  pub twelve_hourly_decided : {over : Result Megajoules Refusal} → over ≡ excused_twelve_hourly_answer p m hours excused
      → Decided (excused_twelve_hourly_check p m hours excused) (excused_twelve_hourly p m hours excused) (record { 0 = 0 })
      (overrun_verdict over)
  twelve_hourly_decided = decided overrun_answer overrun_verdict refl (λ refusal. refl) twelve_hourly_numbered

module _ (hours : List (List Megajoules)) (receipt delivery : Side) where
  pub daily_numbered : AllNumbered (daily_check hours receipt delivery)
  unfolding daily_check
  daily_numbered = sides_numbered receipt delivery and rows_numbered hours

  pub daily_decided : {over : Result Daily Refusal} → over ≡ daily_answer hours receipt delivery
      → Decided (daily_check hours receipt delivery) (both_daily (delivered hours) (received hours) receipt delivery)
      (record { receipt = record { 0 = 0 }; delivery = record { 0 = 0 } }) (daily_verdict over)
  daily_decided = decided daily_where daily_verdict refl (λ refusal. refl) daily_numbered

module _ (D : ShipperDay) where
  pub day_numbered : AllNumbered (day_check D)
  unfolding day_check
  day_numbered = mdqs_numbered _ _ and sides_numbered _ _ and cleared_by _ _ 3 tt tt and rows_numbered _

  pub day_decided : {over : Result Overruns Refusal} → over ≡ day_answer D
      → Decided (day_check D) (day_overruns D) (with_greatest 0 0 0 0) (day_verdict over)
  day_decided = decided day_where day_verdict refl (λ refusal. refl) day_numbered

  module _ (E : ExcusedHours) where
    pub excused-day_numbered : AllNumbered (excused_day_check D E)
    unfolding excused_day_check
    excused-day_numbered =
        day_numbered
        and excused_numbered (bare_hours D.yesterday) (bare_hours E.yesterday)
        and excused_hours_numbered D.hours E.hours

    pub excused-day_decided : {over : Result Overruns Refusal} → over ≡ excused_day_answer D E
        → Decided (excused_day_check D E) (excused_day_overruns D E) (with_greatest 0 0 0 0) (day_verdict over)
    excused-day_decided = decided day_where day_verdict refl (λ refusal. refl) excused-day_numbered
