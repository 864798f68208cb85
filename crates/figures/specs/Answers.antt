-- The whole answers of `share_day` and `share_hour` to 01's figures: what the definitions give, each lent list as long as the rows.
use Rattle.std.specs.Prelude.{List, ℕ, length, replicate, Result, Ok}
use Rattle.pointshares.specs.Answer.{hour_afterwards, hour_answer, hour_check, hour_given}
use Rattle.daytable.specs.Table.{Table, rows}
use Rattle.daytable.specs.Acceptance.{table_check}
use Rattle.dayshares.specs.declared.Levels.{Levels}
use Rattle.dayshares.specs.Given.{firm_given, auction_given, lower_tier_given}
use Rattle.dayshares.specs.Answer.{day_shares, shares_answer, class_afterwards}
use Rattle.figures.specs.Units.{gigajoules}
use Rattle.units.specs.Refusals.{Check}
use Rattle.units.specs.declared.Megajoules.{Megajoules}
use Rattle.units.specs.declared.refusal.Refusal.{Refusal}
use Rattle.dayshares.specs.declared.Shares.{Shares}

-- ones are lent, so that a zero written shows
abbrev lent : ℕ → List ℕ
lent rows = replicate rows 1

abbrev found : Table → Check
found T = table_check T (rows T) (rows T) (rows T)

abbrev pub share_day : Table → Result Shares Refusal
share_day T = shares_answer (found T) (day_shares T)

-- the lists of firm, auction and lower tier
abbrev pub day_lists : Table → List ℕ × List ℕ × List ℕ
day_lists T = (
  class_afterwards (found T) (rows T) (firm_given T) (lent (rows T)),
  class_afterwards (found T) (rows T) (auction_given T) (lent (rows T)),
  class_afterwards (found T) (rows T) (lower_tier_given T) (lent (rows T)),
)

-- the five levels, in the order of the rounds
abbrev pub levels : ℕ → ℕ → ℕ → ℕ → ℕ → Levels
levels one two three auction lower_tier =
    record { one = one; two = two; three = three; auction = auction; lower_tier = lower_tier }

-- a day shared at them: what firm, auction and lower tier are given, and LEFT
abbrev pub shared : Levels → ℕ → ℕ → ℕ → ℕ → Result Shares Refusal
shared levels firm auction lower_tier left =
    Ok
    (record {
      levels = levels;
      firm = gigajoules firm;
      auction = gigajoules auction;
      lower_tier = gigajoules lower_tier;
      left = gigajoules left;
    })

-- H, then the entitlements and firm MDQs of the shippers
abbrev pub share_hour : ℕ → List ℕ → List ℕ → Result Megajoules Refusal
share_hour h entitlements mdqs =
    hour_answer (hour_check h entitlements mdqs (length entitlements)) (hour_given h entitlements mdqs)

abbrev pub hour_list : ℕ → List ℕ → List ℕ → List ℕ
hour_list h entitlements mdqs = hour_afterwards h entitlements mdqs (lent (length entitlements))
