-- Worked figures of C-13: one figure in all 35 hours, and the hours 1, 2, .. 35.
use mathlib.Core.Path.{◌≡◌, refl}
use Prim.Native.Nat.{◌+◌}
use Rattle.columns.specs.Sum.{sum}
use Rattle.excesses.specs.TwelveHourly.{period_limit, twelve_hourly}

pub hours_alike : twelve_hourly 1_000 2_000 (λ hour. 100_000) ≡ 4_830_000
unfolding sum period_limit
hours_alike = refl

pub hours_rising : twelve_hourly 0 0 (λ hour. hour + 1) ≡ 5_184
unfolding sum period_limit
hours_rising = refl
