-- A side's day: the gas of its 24 hours and its schedules, as the code adds them up, and the most that its overrun can be.
use mathlib.Core.Path.{◌≡◌, refl, ap, ◌∙◌}
use mathlib.Core.List.{List}
use Prim.Native.Nat.{ℕ, ◌+◌, ◌-◌, ◌*◌, ◌≤◌}
use native.Mathlib.Omega.{arith}
use lib.ListN.{length}
use Rattle.columns.specs.Column.{col}
use Rattle.columns.specs.Sum.{sum}
use Rattle.units.specs.declared.Megajoules.{Megajoules}
use Rattle.units.specs.Unit.{thousandfold}
use Rattle.units.specs.Bound.{most_hour, most_backhaul}
use Rattle.excesses.proofs.Excesses.{gas-most}
use Rattle.metered.specs.declared.Side.{Side}
use Rattle.metered.specs.Private.{Within}
use Rattle.overruns.specs.Daily.{daily, most_daily}

-- the gas of the hours
module _ (row : List ℕ) {hours : List ℕ} {gas : ℕ} (same : hours ≡ row) (e : gas ≡ sum (length hours) (col hours)) where
  pub day-gas : length hours ≡ 24 → gas ≡ sum 24 (col row)
  day-gas n = e ∙ ap (λ k. sum k (col hours)) n ∙ ap (λ xs. sum 24 (col xs)) same

  pub day-gas-most : length hours ≡ 24 → Within row → gas ≤ 24 * most_hour
  day-gas-most n low = omega (arith, day-gas n, gas-most (col row) low 24)

-- the schedules
module _ (side : Side) {forward backhaul : Megajoules}
    (f : forward ≡ thousandfold side.forward) (b : backhaul ≡ thousandfold side.backhaul) where
  pub scheduled : forward.0 + backhaul.0 ≡ 1000 * (side.forward.0 + side.backhaul.0)
  scheduled = omega (arith, ap (λ x. x.0) f, ap (λ x. x.0) b)

  pub day-over : (row : List ℕ) {gas over : ℕ} → gas ≡ sum 24 (col row) → over ≡ gas + side.metered.0 - (forward.0 + backhaul.0)
      → over ≡ daily (col row) side
  day-over row g e = omega (arith, scheduled)

-- the most that the daily overrun can be, which it reaches with schedules of zero and all gas at its bound
pub daily-most : (metered : List ℕ) (side : Side) → Within metered → side.metered.0 ≤ most_backhaul
    → daily (col metered) side ≤ most_daily
daily-most metered side low back = omega (arith, gas-most (col metered) low 24)

abbrev unscheduled : Side
unscheduled = record { forward = record { 0 = 0 }; backhaul = record { 0 = 0 }; metered = record { 0 = most_backhaul } }

pub daily_reached : daily (λ hour. most_hour) unscheduled ≡ most_daily
unfolding sum
daily_reached = refl
