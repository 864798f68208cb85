-- 01, "Refusal numbers": the tests of a day's table, in 01's order.
use Rattle.std.specs.Prelude.{Bool, false, cond, List, ℕ, leb, ltb, eqb, length, Ok}
use Rattle.columns.specs.Column.{col}
use Rattle.columns.specs.First.{first}
use Rattle.units.specs.Bound.{most_gigajoules, most_rows}
use Rattle.units.specs.Refusals.{◌then◌, keep, clear, within, Check}
use Rattle.daytable.specs.Table.{Table, rows}

-- 9: the five lists are as long as one another
unfoldable pub lengths_check : Table → Check
lengths_check T =
    Ok tt
    then keep (eqb (rows T) (length T.auction_mdq)) 9
    then keep (eqb (rows T) (length T.firm_schedule)) 9
    then keep (eqb (rows T) (length T.auction_schedule)) 9
    then keep (eqb (rows T) (length T.lower_tier_schedule)) 9

-- 3: the capacities, the count, then each list
unfoldable pub bounds_check : Table → Check
bounds_check T =
    Ok tt
    then keep (leb T.free_flow most_gigajoules) 3
    then keep (leb T.compressor most_gigajoules) 3
    then keep (leb (rows T) most_rows) 3
    then within most_gigajoules T.firm_mdq
    then within most_gigajoules T.auction_mdq
    then within most_gigajoules T.firm_schedule
    then within most_gigajoules T.auction_schedule
    then within most_gigajoules T.lower_tier_schedule

-- a schedule above zero with that MDQ zero
abbrev pub idle : ℕ → ℕ → Bool
idle mdq schedule = cond (eqb mdq 0) (ltb 0 schedule) false

abbrev pub first_idle : List ℕ → List ℕ → ℕ
first_idle mdqs schedules = first (length mdqs) (λ i. idle (col mdqs i) (col schedules i))

-- 4: firm rows, then auction rows; 7: the three lent lists
unfoldable pub table_check : Table → ℕ → ℕ → ℕ → Check
table_check T firm_room auction_room lower_tier_room =
    lengths_check T
    then bounds_check T
    then clear (rows T) (first_idle T.firm_mdq T.firm_schedule) 4
    then clear (rows T) (first_idle T.auction_mdq T.auction_schedule) 4
    then keep (leb (rows T) firm_room) 7
    then keep (leb (rows T) auction_room) 7
    then keep (leb (rows T) lower_tier_room) 7
