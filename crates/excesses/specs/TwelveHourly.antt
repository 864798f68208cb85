-- 01, "Overruns of a day"; cl. 5.5, 7.5: the twelve-hourly overrun. M is today's Adjusted MDQ, P yesterday's.
use Rattle.std.specs.Prelude.{cond, ℕ, ◌+◌, ◌-◌, ◌*◌, leb}
use Rattle.columns.specs.Sum.{sum}

-- the limit of the period that ends with hour h of today
unfoldable pub period_limit : ℕ → ℕ → ℕ → ℕ
period_limit p m h = cond (leb 12 h) (564 * m) (47 * ((12 - h) * p + h * m))

-- its gas: twelve consecutive hours out of the 35, of which yesterday's 11 come first
abbrev pub period_gas : (ℕ → ℕ) → ℕ → ℕ
period_gas hours h = sum 12 (λ k. hours (h - 1 + k))

abbrev pub period_excess : ℕ → ℕ → (ℕ → ℕ) → ℕ → ℕ
period_excess p m hours h = period_gas hours h - period_limit p m h

-- the sum over the hours 1 to n
abbrev pub over_hours : ℕ → (ℕ → ℕ) → ℕ
over_hours n f = sum n (λ before. f (before + 1))

-- the sum of the 24 excesses
abbrev pub twelve_hourly : ℕ → ℕ → (ℕ → ℕ) → ℕ
twelve_hourly p m hours = over_hours 24 (period_excess p m hours)

-- the most that it can be, which is the bound of a chargeable overrun
abbrev pub most_twelve_hourly : ℕ
most_twelve_hourly = 28_800_000_000
