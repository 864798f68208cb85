-- 01, "Units and bounds": the greatest that each figure may be. The least is zero, and of an imbalance the same below zero.
use Rattle.std.specs.Prelude.{ℕ}

-- MDQ, schedule, free flow and compressor capacity, a round's weight and need (GJ)
abbrev pub most_gigajoules : ℕ
most_gigajoules = 1_000_000

-- metered hour, hourly point capacity, reserved entitlement (MJ)
abbrev pub most_hour : ℕ
most_hour = 100_000_000

-- backhaul metered over a day (MJ)
abbrev pub most_backhaul : ℕ
most_backhaul = 2_400_000_000

-- system use totals (MJ)
abbrev pub most_system_use : ℕ
most_system_use = 1_000_000_000

-- accumulated imbalance, either way (MJ)
abbrev pub most_imbalance : ℕ
most_imbalance = 1_000_000_000

-- chargeable overrun (MJ)
abbrev pub most_chargeable : ℕ
most_chargeable = 28_800_000_000

-- requests in a day
abbrev pub most_requests : ℕ
most_requests = 1_000

-- rate (hundred-thousandths of a dollar)
abbrev pub most_rate : ℕ
most_rate = 100_000_000

-- CPI in tenths
abbrev pub most_cpi : ℕ
most_cpi = 100_000

-- rows of every list of shippers
abbrev pub most_rows : ℕ
most_rows = 64

-- capacity of a round called alone (GJ)
abbrev pub most_capacity : ℕ
most_capacity = 2_000_000
