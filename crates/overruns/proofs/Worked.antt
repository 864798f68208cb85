-- Worked figures of C-14: 01's day of 288,000 MJ with gas excused, and a day whose daily overrun counts what the others leave out.
use Rattle.std.specs.Prelude.{Ok, Err}
use mathlib.Core.Path.{◌≡◌, refl}
use mathlib.Core.List.{List, [], ◌∷◌}
use Prim.Native.Nat.{ℕ}
use lib.ListN.{replicate}
use Rattle.columns.specs.Column.{listed}
use Rattle.columns.specs.Sum.{sum}
use Rattle.columns.specs.First.{first_from}
use Rattle.units.specs.declared.Megajoules.{Megajoules}
use Rattle.units.specs.Refusals.{at_row, keep, clear, first_refusal}
use Rattle.excesses.specs.TwelveHourly.{period_limit}
use Rattle.metered.specs.Hours.{hours_check}
use Rattle.metered.specs.Singles.{mdqs_check, side_check, sides_check}
use Rattle.metered.specs.Excused.{excused_hours_check}
use Rattle.overruns.specs.declared.day.ShipperDay.{ShipperDay}
use Rattle.overruns.specs.Day.{with_greatest, day_check}
use Rattle.overruns.specs.declared.day.ExcusedHours.{ExcusedHours}
use Rattle.overruns.specs.Excused.{nothing_excused, excused_day_check, excused_day_answer}

abbrev megajoules : ℕ → Megajoules
megajoules figure = record { 0 = figure }

abbrev hours : ℕ → ℕ → List Megajoules
hours many figure = replicate many (megajoules figure)

-- P and M 1000; so much in each hour, and no backhaul
abbrev day_of : ℕ → ℕ → ℕ → ℕ → ℕ → ShipperDay
day_of yesterday delivered received receipt delivery = record {
  p = record { 0 = 1_000 };
  m = record { 0 = 1_000 };
  yesterday = hours 11 yesterday;
  hours = hours 24 delivered ∷ hours 24 received ∷ [];
  receipt = record { forward = record { 0 = receipt }; backhaul = record { 0 = 0 }; metered = megajoules 0 };
  delivery = record { forward = record { 0 = delivery }; backhaul = record { 0 = 0 }; metered = megajoules 0 };
}

-- 48,000 in each of the 35 hours
abbrev steady : ShipperDay
steady = day_of 48_000 48_000 0 0 1_152

-- so much excused in hour 1 of today alone
abbrev first_hour : ℕ → ExcusedHours
first_hour figure = record { yesterday = hours 11 0; hours = (megajoules figure ∷ hours 23 0) ∷ hours 24 0 ∷ [] }

pub record Worked : Type 0 where
  pub none_excused : excused_day_answer steady nothing_excused ≡ Ok (with_greatest 0 288_000 0 0)
  pub all_excused :
      excused_day_answer steady (record { yesterday = hours 11 1_000; hours = hours 24 1_000 ∷ hours 24 0 ∷ [] })
      ≡ Ok (with_greatest 0 0 0 0)
  pub first_hour_excused : excused_day_answer steady (first_hour 1_000) ≡ Ok (with_greatest 0 276_000 0 0)
  -- the whole hour may be excused, and no more than it
  pub whole_hour_excused : excused_day_answer steady (first_hour 48_000) ≡ Ok (with_greatest 0 144_000 0 0)
  pub more_excused : excused_day_answer steady (first_hour 48_001) ≡ Err (at_row 3 0)
  -- nothing yesterday, 50,001 delivered and 44,002 received, forward schedules 1,200 and 1,200; 1 excused in each hour of both sides
  pub daily_counts_all :
      excused_day_answer (day_of 0 50_001 44_002 1_200 1_200) (record { yesterday = hours 11 0; hours = hours 24 1 ∷ hours 24 1 ∷ [] })
      ≡ Ok (with_greatest 24 468_000 0 24)

pub worked : Worked
unfolding listed sum first_from first_refusal keep clear period_limit mdqs_check side_check sides_check hours_check day_check
    excused_hours_check excused_day_check
worked = record {
  none_excused = refl;
  all_excused = refl;
  first_hour_excused = refl;
  whole_hour_excused = refl;
  more_excused = refl;
  daily_counts_all = refl;
}
