-- 01, "Figures to check against": every figure marked *, in 01's order and words, under one claim.
use Rattle.std.specs.Prelude.{◌≡◌, List, [], ◌∷◌, ℕ, Ok}
use Rattle.columns.specs.Column.{listed}
use Rattle.excesses.specs.Hourly.{hour_excess}
use Rattle.excesses.specs.TwelveHourly.{period_limit}
use Rattle.tariff.specs.declared.charges.Change.{Change}
use Rattle.tariff.specs.Rates.{overrun_rate, variation_rate}
use Rattle.tariff.specs.Charges.{overrun_charge, variation_charge}
use Rattle.tariff.specs.Escalation.{escalation}
use Rattle.daytable.specs.Table.{rows}
use Rattle.usegas.specs.Fuel.{imbalance_fuel}
use Rattle.overruns.specs.Day.{with_greatest, day_answer, day_verdict}
use Rattle.dayshares.specs.Firm.{given_one, firm}
use Rattle.figures.specs.Line.{Line, ◌is◌, defined, said}
use Rattle.figures.specs.Units.{gigajoules, megajoules, cents, rate, imbalance}
use Rattle.figures.specs.Days.{first_day, second_day, third_day, steady_day}
use Rattle.figures.specs.Answers.{share_day, day_lists, shared, levels, share_hour, hour_list}

-- RE/MDQ 4000/300, 2000/100
abbrev entitlements : List ℕ
entitlements = 4_000 ∷ 2_000 ∷ []

abbrev mdqs : List ℕ
mdqs = 300 ∷ 100 ∷ []

-- a schedule varied 100 GJ up
abbrev up : Change
up = record { old = gigajoules 0; new = gigajoules 100 }

-- a day is shared at five levels, so much is given to firm, auction and lower tier, and so much is LEFT; then the three lists
abbrev pub table : List Line
table =
    -- Free flow 300, compressor 100; firm MDQ/schedule 400/400 and 200/60. Round one gives 240, 60 at level 803,333; totals 340, 60.
    listed (rows first_day) (given_one (firm first_day)) is (240 ∷ 60 ∷ [])
    ∷ share_day first_day is shared (levels 803_333 1_009_999 2_499 0 0) 400 0 0 0
    ∷ day_lists first_day is (340 ∷ 60 ∷ [], 0 ∷ 0 ∷ [], 0 ∷ 0 ∷ [])
    -- Free flow 10, compressor 0, three rows 4/4: 3, 3, 3, one GJ left.
    ∷ share_day second_day is shared (levels 1_333_333 999_999 249_999 0 0) 9 0 0 1
    ∷ day_lists second_day is (3 ∷ 3 ∷ 3 ∷ [], 0 ∷ 0 ∷ 0 ∷ [], 0 ∷ 0 ∷ 0 ∷ [])
    -- Free flow 300, compressor 100; one firm row 400/100; auction MDQ/schedule 100/200, 300/300: auction 75, 225.
    ∷ share_day third_day is shared (levels 1_000_000_000_000 1_000_000_000_000 1_000_000_000_000 753_333 0) 100 300 0 0
    ∷ day_lists third_day is (100 ∷ 0 ∷ [], 75 ∷ 225 ∷ [], 0 ∷ 0 ∷ [])
    -- H 9000, RE/MDQ 4000/300, 2000/100: 6250, 2750. H 5000, same: 3333, 1666.
    ∷ share_hour 9_000 entitlements mdqs is Ok (megajoules 9_000)
    ∷ hour_list 9_000 entitlements mdqs is (6_250 ∷ 2_750 ∷ [])
    ∷ share_hour 5_000 entitlements mdqs is Ok (megajoules 4_999)
    ∷ hour_list 5_000 entitlements mdqs is (3_333 ∷ 1_666 ∷ [])
    -- M 1000: an hour of 50,000 delivered, no excess; 50,001, 1 MJ.
    ∷ hour_excess 1_000 50_000 0 is 0
    ∷ hour_excess 1_000 50_001 0 is 1
    -- P 1000, M 2000, h 5: limit 799,000.
    ∷ period_limit 1_000 2_000 5 is 799_000
    -- P and M 1000, 48,000 delivered in all 35 hours, nothing received, forward delivery 1,152, no backhaul:
    -- 288,000 MJ twelve-hourly, others zero, 103,392 cents.
    ∷ day_answer steady_day is Ok (with_greatest 0 288_000 0 0)
    ∷ overrun_charge overrun_rate (day_verdict (day_answer steady_day)).figures.greatest is Ok (cents 103_392)
    -- MDQ 1000: PI 80,000 and 80,099 give 0, 80,100 gives 1.
    ∷ imbalance_fuel (imbalance 80_000) (imbalance 0) (gigajoules 1_000) is Ok (megajoules 0)
    ∷ imbalance_fuel (imbalance 80_099) (imbalance 0) (gigajoules 1_000) is Ok (megajoules 0)
    ∷ imbalance_fuel (imbalance 80_100) (imbalance 0) (gigajoules 1_000) is Ok (megajoules 1)
    -- Variation 100 GJ up: 408 cents. 359000 from CPI 1143 to 1163: 365282.
    ∷ variation_charge variation_rate up up is Ok (cents 408)
    ∷ escalation (rate 359_000) 1_163 1_143 is Ok (rate 365_282)
    ∷ []

-- the claim: line by line, what the definitions give is what 01 says
abbrev pub Figures : Type 0
Figures = defined table ≡ said table
