-- What acceptance says, a routine at a time.
use Rattle.std.specs.Prelude.{Ok}
use mathlib.Core.Path.{◌≡◌}
use mathlib.Core.List.{List, ◌++◌}
use Prim.Native.Nat.{ℕ, ◌≤◌}
use borrow.Author.Tests.{eqb-true}
use lib.ListN.{length}
use Rattle.columns.specs.Column.{col}
use Rattle.units.specs.declared.Gigajoules.{Gigajoules}
use Rattle.units.specs.declared.Megajoules.{Megajoules}
use Rattle.units.proofs.Checks.{both-accepted, kept, accepts-both}
use Rattle.metered.specs.declared.Side.{Side}
use Rattle.metered.specs.Hours.{bare_hours, delivered, received}
use Rattle.metered.specs.Excused.{compared}
use Rattle.metered.specs.Private.{Within, RowsWithin, ComparedWithin, BackhaulWithin}
use Rattle.metered.proofs.Accepting.{both-within, hours-within, rows-within, backhaul-within}
use Rattle.metered.proofs.Comparing.{compared-within, accepts-excused, accepts-excused_hours}
use Rattle.overruns.specs.Hourly.{hourly_check}
use Rattle.overruns.specs.Daily.{daily_check}
use Rattle.overruns.specs.declared.day.ShipperDay.{ShipperDay}
use Rattle.overruns.specs.Day.{Hours, day_check}
use Rattle.overruns.specs.Excused.{excused_hourly_check, excused_twelve_hourly_check}
use Rattle.overruns.specs.declared.day.ExcusedHours.{ExcusedHours}
use Rattle.overruns.specs.Excused.{hours_in, hours_compared, excused_day_check}

-- both sides' hours compared are within the bound of those metered
rows-compared : (hours excused : List (List Megajoules)) → RowsWithin hours
    → ComparedWithin hours excused
rows-compared hours excused low =
    (compared-within (delivered hours) (delivered excused) low.0, compared-within (received hours) (received excused) low.1)

pub hourly-accepting : (m : Gigajoules) (hours excused : List (List Megajoules))
    → excused_hourly_check m hours excused ≡ Ok tt
    → ComparedWithin hours excused
unfolding hourly_check excused_hourly_check
hourly-accepting m hours excused e = rows-compared hours excused (rows-within hours (both-accepted _ _ (both-accepted _ _ e).0).1)

pub twelve_hourly-accepting : (p m : Gigajoules) (hours excused : List ℕ) → excused_twelve_hourly_check p m hours excused ≡ Ok tt
    → (length hours ≡ 35) × (length excused ≡ 35) × Within (compared hours excused)
unfolding excused_twelve_hourly_check
twelve_hourly-accepting p m hours excused e =
    let within = both-accepted _ _ (both-accepted _ _ e).0 in
    let mdqs = both-accepted _ _ within.0 in
    let long-excused = both-accepted _ _ mdqs.0 in
    let long = both-accepted _ _ long-excused.0 in (
      eqb-true _ _ (kept _ _ long.1),
      eqb-true _ _ (kept _ _ long-excused.1),
      compared-within hours excused (hours-within hours within.1),
    )

pub daily-accepting : (hours : List (List Megajoules)) (receipt delivery : Side) → daily_check hours receipt delivery ≡ Ok tt
    → RowsWithin hours × BackhaulWithin receipt delivery
unfolding daily_check
daily-accepting hours receipt delivery e =
    let both = both-accepted _ _ e in (rows-within hours both.1, backhaul-within receipt delivery both.0)

pub record DayAccepting (D : ShipperDay) : Type 0 where
  pub both_days : Within (bare_hours D.yesterday ++ delivered D.hours)
  pub rows : RowsWithin D.hours
  pub backhaul : BackhaulWithin D.receipt D.delivery

pub day-accepting : (D : ShipperDay) → day_check D ≡ Ok tt → DayAccepting D
unfolding day_check
day-accepting D e =
    let today = both-accepted _ _ e in
    let yesterday = both-accepted _ _ today.0 in
    let sides = both-accepted _ _ yesterday.0 in
    let rows = rows-within D.hours today.1 in
    let first = hours-within (bare_hours D.yesterday) yesterday.1 in
    record {
      both_days = both-within (bare_hours D.yesterday) (delivered D.hours) first rows.0;
      rows = rows;
      backhaul = backhaul-within D.receipt D.delivery sides.1;
    }

-- ---- of a day with hours excused
module _ (D : ShipperDay) (E : ExcusedHours) where
  abbrev pub compared_day : Hours
  compared_day = hours_compared (hours_in D.yesterday D.hours) (hours_in E.yesterday E.hours)

  pub record ExcusedAccepting : Type 0 where
    pub both_days : Within compared_day.both_days
    pub rows : ComparedWithin D.hours E.hours
    pub metered : DayAccepting D

  pub excused-day-accepting : excused_day_check D E ≡ Ok tt → ExcusedAccepting
  unfolding excused_day_check
  excused-day-accepting e =
      let a = day-accepting D (both-accepted _ _ (both-accepted _ _ e).0).0 in
      let metered = hours_in D.yesterday D.hours in
      record {
        both_days = compared-within metered.both_days (hours_in E.yesterday E.hours).both_days a.both_days;
        rows = rows-compared D.hours E.hours a.rows;
        metered = a;
      }

  -- what is excused within what was metered is accepted where the day is
  pub excused-accepts : day_check D ≡ Ok tt
      → ((hour : ℕ) → col (bare_hours E.yesterday) hour ≤ col (bare_hours D.yesterday) hour)
      → ((hour : ℕ) → col (delivered E.hours) hour ≤ col (delivered D.hours) hour)
      → ((hour : ℕ) → col (received E.hours) hour ≤ col (received D.hours) hour)
      → excused_day_check D E ≡ Ok tt
  unfolding excused_day_check
  excused-accepts accepted y d r =
      accepts-both (accepts-both accepted (accepts-excused (bare_hours D.yesterday) (bare_hours E.yesterday) y))
      (accepts-excused_hours D.hours E.hours d r)
