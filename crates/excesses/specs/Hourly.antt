-- 01, "Overruns of a day"; cl. 5.2, 5.3, 7.3: the hourly overrun. M is today's Adjusted MDQ.
use Rattle.std.specs.Prelude.{ℕ, ◌-◌, ◌*◌, max}
use Rattle.columns.specs.Sum.{sum}

-- limits 44×M MJ received and 50×M MJ delivered; the greater of the two excesses
abbrev pub hour_excess : ℕ → ℕ → ℕ → ℕ
hour_excess m delivered received = max (delivered - 50 * m) (received - 44 * m)

-- summed over 24 hours
abbrev pub hourly : ℕ → (ℕ → ℕ) → (ℕ → ℕ) → ℕ
hourly m delivered received = sum 24 (λ hour. hour_excess m (delivered hour) (received hour))

-- the most that it can be
abbrev pub most_hourly : ℕ
most_hourly = 2_400_000_000
