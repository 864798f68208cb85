-- What the periods' excesses come to at most.
use Prim.Native.Nat.{ℕ, ◌+◌, ◌-◌, ◌*◌, ◌≤◌}
use native.Mathlib.Omega.{arith}
use Rattle.columns.specs.Sum.{sum}
use Rattle.columns.proofs.Sums.{sum_mono, sum_bound}
use Rattle.units.specs.Bound.{most_hour}
use Rattle.excesses.specs.TwelveHourly.{period_excess, twelve_hourly}
use Rattle.excesses.proofs.Excesses.{Low}

-- the excess of the period after so many
module _ (p m : ℕ) (hours : ℕ → ℕ) where
  abbrev pub following : ℕ → ℕ
  following before = period_excess p m hours (before + 1)

  module _ (low : Low hours) where
    pub period_most : (before : ℕ) → following before ≤ 12 * most_hour
    period_most before = omega (arith, sum_bound 12 _ most_hour (λ k l. low (before + 1 - 1 + k)))

    pub periods_most : (n : ℕ) → sum n following ≤ n * (12 * most_hour)
    periods_most n = sum_bound n following (12 * most_hour) (λ before l. period_most before)

-- less gas in an hour never raises the twelve-hourly overrun
pub twelve_hourly_mono : (p m : ℕ) (hours more : ℕ → ℕ) → ((hour : ℕ) → hours hour ≤ more hour)
    → twelve_hourly p m hours ≤ twelve_hourly p m more
twelve_hourly_mono p m hours more low =
    sum_mono 24 _ _ (λ before l. omega (arith, sum_mono 12 _ _ (λ k l. low (before + 1 - 1 + k))))
