-- 01, "A day's shares": what a table's rows are given, class after class.
use Rattle.std.specs.Prelude.{Bool, false, cond, ℕ, ◌+◌, ◌-◌}
use Rattle.columns.specs.Column.{col}
use Rattle.columns.specs.Sum.{sum}
use Rattle.daytable.specs.Table.{Table, rows}
use Rattle.dayshares.specs.Firm.{firm, given_firm}
use Rattle.dayshares.specs.Class.{full, class_level, class_given}

abbrev pub firm_given : Table → ℕ → ℕ
firm_given T = given_firm (firm T)

abbrev pub firm_total : Table → ℕ
firm_total T = sum (rows T) (firm_given T)

-- if any firm row is short, auction and lower tier get zero
abbrev pub auction_held : Table → Bool
auction_held T = full (rows T) (col T.firm_schedule) (firm_given T)

-- otherwise what is left goes to auction in one round, weights Auction MDQ, needs auction schedule
abbrev pub auction_offered : Table → ℕ
auction_offered T = T.free_flow + T.compressor - firm_total T

abbrev pub auction_level : Table → ℕ
auction_level T =
    class_level (auction_held T) (rows T) (col T.auction_mdq) (col T.auction_schedule) (auction_offered T)

abbrev pub auction_given : Table → ℕ → ℕ
auction_given T =
    class_given (auction_held T) (rows T) (col T.auction_mdq) (col T.auction_schedule) (auction_offered T)

abbrev pub auction_total : Table → ℕ
auction_total T = sum (rows T) (auction_given T)

-- if every auction row is full too, the rest goes to lower tier, where weight and need are both the schedule
abbrev pub lower_tier_held : Table → Bool
lower_tier_held T = cond (auction_held T) (full (rows T) (col T.auction_schedule) (auction_given T)) false

abbrev pub lower_tier_offered : Table → ℕ
lower_tier_offered T = auction_offered T - auction_total T

abbrev pub lower_tier_level : Table → ℕ
lower_tier_level T =
    class_level (lower_tier_held T) (rows T) (col T.lower_tier_schedule) (col T.lower_tier_schedule) (lower_tier_offered T)

abbrev pub lower_tier_given : Table → ℕ → ℕ
lower_tier_given T =
    class_given (lower_tier_held T) (rows T) (col T.lower_tier_schedule) (col T.lower_tier_schedule) (lower_tier_offered T)

abbrev pub lower_tier_total : Table → ℕ
lower_tier_total T = sum (rows T) (lower_tier_given T)

-- LEFT is both capacities less everything given
abbrev pub left : Table → ℕ
left T = T.free_flow + T.compressor - (firm_total T + auction_total T + lower_tier_total T)
