-- Sums over hours: the most that they can be, and that they fit.
use mathlib.Core.Path.{◌≡◌, ◌∙◌}
use Prim.Native.Nat.{ℕ, ◌-◌, ◌*◌, ◌^◌, ◌≤◌, ◌<◌, max}
use native.Mathlib.Omega.{arith}
use Rattle.columns.specs.Sum.{sum}
use Rattle.columns.proofs.Sums.{sum_mono, sum_bound, Adding, adding_bound, adding_all}
use Rattle.units.specs.Bound.{most_hour}
use Rattle.excesses.specs.Hourly.{hourly}

-- every hour is within its bound
abbrev pub Low : (ℕ → ℕ) → Type 0
Low hours = (hour : ℕ) → hours hour ≤ most_hour

-- at most 24 figures, each of at most twelve hours' gas
pub adding_fits : {n : ℕ} {f : ℕ → ℕ} {row total : ℕ} → Adding n f row total → n ≤ 24 → ((i : ℕ) → i < n → f i ≤ 12 * most_hour)
    → total < 2 ^ 64
adding_fits {n} {f} A few low = omega (arith, A.inside, adding_bound n f A (12 * most_hour) low)

pub gas-most : (hours : ℕ → ℕ) → Low hours → (n : ℕ) → sum n hours ≤ n * most_hour
gas-most hours low n = sum_bound n hours most_hour (λ hour l. low hour)

-- ---- the greater of the two excesses in each hour, each above its own limit
module _ (delivered received : ℕ → ℕ) (most_delivered most_received : ℕ) where
  abbrev pub greater_excess : ℕ → ℕ
  greater_excess hour = max (delivered hour - most_delivered) (received hour - most_received)

  pub all-hours : {hour total : ℕ} (m : ℕ) → Adding 24 greater_excess hour total → 24 ≤ hour
      → most_delivered ≡ 50 * m → most_received ≡ 44 * m → total ≡ hourly m delivered received
  all-hours m A l d r = adding_all 24 greater_excess A l ∙ rw (d, r)

  module _ (low : Low delivered × Low received) where
    hour-most : (hour : ℕ) → greater_excess hour ≤ most_hour
    hour-most hour = omega (arith, low.0 hour, low.1 hour)

    pub hours_fit : {hour total : ℕ} → Adding 24 greater_excess hour total → total < 2 ^ 64
    hours_fit A = adding_fits A (omega arith) (λ hour l. omega (arith, hour-most hour))

    pub hours-most : (n : ℕ) → sum n greater_excess ≤ n * most_hour
    hours-most n = sum_bound n greater_excess most_hour (λ hour l. hour-most hour)

-- less gas in an hour never raises the hourly overrun
pub hourly_mono : (m : ℕ) (delivered received more_delivered more_received : ℕ → ℕ)
    → ((hour : ℕ) → delivered hour ≤ more_delivered hour) → ((hour : ℕ) → received hour ≤ more_received hour)
    → hourly m delivered received ≤ hourly m more_delivered more_received
hourly_mono m delivered received more_delivered more_received d r =
    sum_mono 24 _ _ (λ hour l. omega (arith, d hour, r hour))
