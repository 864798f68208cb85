-- A meter's single figures.
use Rattle.std.specs.Prelude.{List, ℕ, ◌+◌, Result, Ok, Err}
use Rattle.columns.specs.Column.{col}
use Rattle.units.specs.Verdict.{Verdict, accepting, refusing}
use Rattle.metered.specs.declared.Side.{Side}
use Rattle.dayformat.specs.declared.layout.Counts.{Counts}
use Rattle.daymeters.specs.declared.figures.MeterFigures.{MeterFigures}
use Rattle.daymeters.specs.Meter.{meter_check, meter_at, sides_at}
use Rattle.units.specs.Refusals.{Check}
use Rattle.units.specs.declared.refusal.Refusal.{Refusal}

-- schedules forward receipt, forward delivery, backhaul receipt, backhaul delivery, backhaul metered receipt, delivery: of side 0 or 1
abbrev pub side_of : Counts → (ℕ → ℕ) → ℕ → ℕ → Side
side_of counts numbers row side =
    record {
      forward = record { 0 = meter_at counts numbers row (sides_at + side) };
      backhaul = record { 0 = meter_at counts numbers row (sides_at + 2 + side) };
      metered = record { 0 = meter_at counts numbers row (sides_at + 4 + side) };
    }

-- shipper, P, M, then each side's
abbrev pub figures_of : Counts → (ℕ → ℕ) → ℕ → MeterFigures
figures_of counts numbers row =
    record {
      shipper = meter_at counts numbers row 0;
      p = record { 0 = meter_at counts numbers row 1 };
      m = record { 0 = meter_at counts numbers row 2 };
      receipt = side_of counts numbers row 0;
      delivery = side_of counts numbers row 1;
    }

abbrev pub no_side : Side
no_side = record { forward = record { 0 = 0 }; backhaul = record { 0 = 0 }; metered = record { 0 = 0 } }

abbrev pub no_figures : MeterFigures
no_figures = record { shipper = 0; p = record { 0 = 0 }; m = record { 0 = 0 }; receipt = no_side; delivery = no_side }

abbrev pub meter_where : Check → MeterFigures → Result MeterFigures Refusal
meter_where (Ok _) figures = Ok figures
meter_where (Err x) figures = Err x

abbrev pub meter_answer : Counts → List ℕ → ℕ → Result MeterFigures Refusal
meter_answer counts numbers row = meter_where (meter_check counts numbers row) (figures_of counts (col numbers) row)

-- 01's number, place and figures of each case
abbrev pub meter_verdict : Result MeterFigures Refusal → Verdict MeterFigures
meter_verdict (Ok figures) = accepting figures
meter_verdict (Err x) = refusing x no_figures

-- the figures that an answer has, zeros where it is refused
abbrev pub meter_figures : Counts → List ℕ → ℕ → MeterFigures
meter_figures counts numbers row = (meter_verdict (meter_answer counts numbers row)).figures
