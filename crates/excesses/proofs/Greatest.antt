-- The most that an hourly and a twelve-hourly overrun can be, which they reach; the greatest of four is one of them and no less than any.
use mathlib.Core.Path.{◌≡◌, refl, ◌∙◌}
use mathlib.Core.Logic.{◌⊎◌, inl, inr, ⊎_elim}
use Prim.Native.Nat.{ℕ, ◌*◌, ◌≤◌, max}
use native.Mathlib.Decide.{dec_le}
use native.Mathlib.Omega.{arith}
use Rattle.columns.specs.Sum.{sum}
use Rattle.units.specs.Bound.{most_hour}
use Rattle.excesses.specs.Hourly.{hourly, most_hourly}
use Rattle.excesses.specs.TwelveHourly.{period_limit, twelve_hourly, most_twelve_hourly}
use Rattle.excesses.specs.Greatest.{greatest, Greatest}
use Rattle.excesses.proofs.Excesses.{Low, hours-most}
use Rattle.excesses.proofs.Periods.{periods_most}

pub hourly-most : (m : ℕ) (delivered received : ℕ → ℕ) → Low delivered × Low received → hourly m delivered received ≤ most_hourly
hourly-most m delivered received low = omega (arith, hours-most delivered received (50 * m) (44 * m) low 24)

pub twelve_hourly-most : (p m : ℕ) (hours : ℕ → ℕ) → Low hours → twelve_hourly p m hours ≤ most_twelve_hourly
twelve_hourly-most p m hours low = omega (arith, periods_most p m hours low 24)

-- an MDQ of zero, and all gas at its bound
pub hourly_reached : hourly 0 (λ hour. most_hour) (λ hour. most_hour) ≡ most_hourly
unfolding sum
hourly_reached = refl

pub twelve_hourly_reached : twelve_hourly 0 0 (λ hour. most_hour) ≡ most_twelve_hourly
unfolding sum period_limit
twelve_hourly_reached = refl

-- ---- the greatest
either : (a b : ℕ) → (max a b ≡ a) ⊎ (max a b ≡ b)
either a b = go (dec_le b a)
  where
    go : Dec (b ≤ a) → (max a b ≡ a) ⊎ (max a b ≡ b)
    go (yes l) = inl (omega arith)
    go (no l) = inr (omega arith)

pub greatest_of : (a b c d : ℕ) → Greatest a b c d (greatest a b c d)
greatest_of a b c d = record {
  one =
      ⊎_elim (λ e. ⊎_elim (λ f. inl (e ∙ f)) (λ f. inr (inl (e ∙ f))) (either a b))
      (λ e. ⊎_elim (λ f. inr (inr (inl (e ∙ f)))) (λ f. inr (inr (inr (e ∙ f)))) (either c d))
      (either (max a b) (max c d));
  first = omega arith;
  second = omega arith;
  third = omega arith;
  fourth = omega arith;
}
