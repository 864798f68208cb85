-- C-14: where nothing is excused each routine's answer is that of before, refusals included, for every input: every hour is compared as
-- it was metered, and the further tests accept.
use Rattle.std.specs.Prelude.{Ok}
use mathlib.Core.Path.{◌≡◌, refl}
use mathlib.Core.List.{List, ◌++◌}
use Prim.Native.Nat.{ℕ}
use lib.Dec.{eqb}
use lib.ListN.{length, replicate}
use Rattle.units.specs.declared.Gigajoules.{Gigajoules}
use Rattle.units.specs.declared.Megajoules.{Megajoules}
use Rattle.units.specs.Refusals.{◌then◌, keep}
use Rattle.units.proofs.Checks.{then_accepted, accepts-both, accepts-kept}
use Rattle.metered.specs.Hours.{bare_hours, delivered, received}
use Rattle.metered.specs.Excused.{excused_hours_check}
use Rattle.metered.proofs.Comparing.{compared-all, accepts-nothing, zero-hours}
use Rattle.overruns.specs.Hourly.{hourly_check, hourly_answer}
use Rattle.overruns.specs.TwelveHourly.{twelve_hourly_check, twelve_hourly_answer}
use Rattle.overruns.specs.declared.day.ShipperDay.{ShipperDay}
use Rattle.overruns.specs.Day.{day_check, day_overruns, day_answer}
use Rattle.overruns.specs.Excused.{excused_hourly_check, excused_hourly_answer}
use Rattle.overruns.specs.Excused.{excused_twelve_hourly_check, excused_twelve_hourly_answer}
use Rattle.overruns.specs.Excused.{nothing_excused, excused_day_check, excused_day_overruns, excused_day_answer}

hours-accepted : (hours : List (List Megajoules)) → excused_hours_check hours nothing_excused.hours ≡ Ok tt
unfolding excused_hours_check
hours-accepted hours =
    accepts-both (accepts-nothing (delivered hours) (replicate 24 0) (zero-hours 24))
    (accepts-nothing (received hours) (replicate 24 0) (zero-hours 24))

pub hourly-nothing : (m : Gigajoules) (hours : List (List Megajoules))
    → excused_hourly_answer m hours nothing_excused.hours ≡ hourly_answer m hours
unfolding excused_hourly_check
hourly-nothing m hours =
    rw (
      hours-accepted hours,
      then_accepted (hourly_check m hours),
      compared-all (delivered hours) (replicate 24 0) (zero-hours 24),
      compared-all (received hours) (replicate 24 0) (zero-hours 24),
    )

pub twelve_hourly-nothing : (p m : Gigajoules) (hours : List ℕ)
    → excused_twelve_hourly_answer p m hours (replicate 35 0) ≡ twelve_hourly_answer p m hours
unfolding excused_twelve_hourly_check twelve_hourly_check
twelve_hourly-nothing p m hours =
    let long : keep (eqb (length {A = ℕ} (replicate 35 0)) 35) 9 ≡ (Ok tt) = accepts-kept 9 refl in
    rw (
      long,
      then_accepted (Ok tt then keep (eqb (length hours) 35) 9),
      accepts-nothing hours (replicate 35 0) (zero-hours 35),
      then_accepted (twelve_hourly_check p m hours),
      compared-all hours (replicate 35 0) (zero-hours 35),
    )

-- of a day: what is found, the figures, and so the answer
module _ (D : ShipperDay) where
  pub check-nothing : excused_day_check D nothing_excused ≡ day_check D
  unfolding excused_day_check
  check-nothing =
      rw (
        hours-accepted D.hours,
        accepts-nothing (bare_hours D.yesterday) (replicate 11 0) (zero-hours 11),
        then_accepted (day_check D),
        then_accepted (day_check D),
      )

  pub overruns-nothing : excused_day_overruns D nothing_excused ≡ day_overruns D
  overruns-nothing =
      rw (
        compared-all (bare_hours D.yesterday ++ delivered D.hours) (replicate 35 0) (zero-hours 35),
        compared-all (delivered D.hours) (replicate 24 0) (zero-hours 24),
        compared-all (received D.hours) (replicate 24 0) (zero-hours 24),
      )

  pub day-nothing : excused_day_answer D nothing_excused ≡ day_answer D
  day-nothing = rw (check-nothing, overruns-nothing)
