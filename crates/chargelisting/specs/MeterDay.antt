-- What a shipper's overruns are worked out from: a row of the meter table, and that of its shipper in the table of excused gas.
use Rattle.std.specs.Prelude.{List, ℕ}
use Rattle.columns.specs.Column.{col}
use Rattle.dayformat.specs.declared.layout.Counts.{Counts}
use Rattle.overruns.specs.declared.day.ShipperDay.{ShipperDay}
use Rattle.overruns.specs.declared.day.ExcusedHours.{ExcusedHours}
use Rattle.daymeters.specs.Figures.{meter_figures}
use Rattle.daymeters.specs.Hours.{meter_yesterday, meter_hours}
use Rattle.daymeters.specs.Excused.{excused_row, excused_yesterday, excused_hours}

abbrev pub shipper_day : Counts → List ℕ → ℕ → ShipperDay
shipper_day counts numbers row =
    record {
      p = (meter_figures counts numbers row).p;
      m = (meter_figures counts numbers row).m;
      yesterday = meter_yesterday counts numbers row;
      hours = meter_hours counts numbers row;
      receipt = (meter_figures counts numbers row).receipt;
      delivery = (meter_figures counts numbers row).delivery;
    }

-- what a row of the table of excused gas says
abbrev pub excused_in_row : Counts → List ℕ → ℕ → ExcusedHours
excused_in_row counts numbers row =
    record { yesterday = excused_yesterday counts numbers row; hours = excused_hours counts numbers row }

-- C-14: a shipper without a row there has zeros
abbrev pub shipper_excused : Counts → List ℕ → ℕ → ExcusedHours
shipper_excused counts numbers row =
    excused_in_row counts numbers (excused_row counts (col numbers) (meter_figures counts numbers row).shipper)
