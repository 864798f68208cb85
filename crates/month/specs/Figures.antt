-- C-11: a day's four overruns in 01's order, its chargeable quantity, variation and request charge.
use Rattle.std.specs.Prelude.{List, [], ◌∷◌, ℕ, leb, eqb}
use Rattle.columns.specs.Column.{col}
use Rattle.units.specs.Bound.{most_chargeable}
use Rattle.units.specs.Refusals.{◌then◌, keep, Check}
use Rattle.units.specs.Each.{each}
use Rattle.excesses.specs.Hourly.{most_hourly}
use Rattle.excesses.specs.TwelveHourly.{most_twelve_hourly}
use Rattle.excesses.specs.Greatest.{greatest}
use Rattle.tariff.specs.Charges.{most_variation, most_request}
use Rattle.overruns.specs.Daily.{most_daily}
use Rattle.month.specs.declared.figures.Figures.{Figures}

-- the seven as bare numbers, each at its place from 0, and from a number for each place
abbrev pub figure_list : Figures → List ℕ
figure_list F =
    F.hourly.0
    ∷ F.twelve_hourly.0
    ∷ F.daily_receipt.0
    ∷ F.daily_delivery.0
    ∷ F.chargeable.0
    ∷ F.variation.0
    ∷ F.request.0
    ∷ []

abbrev pub figure : Figures → ℕ → ℕ
figure F place = col (figure_list F) place

abbrev pub figures_by : (ℕ → ℕ) → Figures
figures_by f = record {
  hourly = record { 0 = f 0 };
  twelve_hourly = record { 0 = f 1 };
  daily_receipt = record { 0 = f 2 };
  daily_delivery = record { 0 = f 3 };
  chargeable = record { 0 = f 4 };
  variation = record { 0 = f 5 };
  request = record { 0 = f 6 };
}

abbrev pub seven_zeros : Figures
seven_zeros = figures_by (λ place. 0)

-- the most that 01's bounds can yield
abbrev pub figure_bounds : List ℕ
figure_bounds =
    most_hourly ∷ most_twelve_hourly ∷ most_daily ∷ most_daily ∷ most_chargeable ∷ most_variation ∷ most_request ∷ []

-- a figure larger than that, or a chargeable quantity that isn't the greatest of the four, is 3
unfoldable pub figures_check : Figures → Check
figures_check F =
    each 7 (λ place. keep (leb (figure F place) (col figure_bounds place)) 3)
    then keep (eqb F.chargeable.0 (greatest F.hourly.0 F.twelve_hourly.0 F.daily_receipt.0 F.daily_delivery.0)) 3
