-- What is tested before lists of gigajoules are made of a day's numbers.
use Rattle.std.specs.Prelude.{List, ℕ, leb, eqb, length, Ok}
use Rattle.units.specs.Bound.{most_gigajoules, most_rows}
use Rattle.units.specs.Refusals.{◌then◌, keep, Check}
use Rattle.dayformat.specs.declared.day.Day.{Day}
use Rattle.dayformat.specs.declared.layout.Counts.{Counts}
use Rattle.dayformat.specs.Layout.{numbers_in}
use Rattle.dayformat.specs.Acceptance.{counts_check}
use Rattle.dayvalues.specs.declared.column.ShipperColumn.TheVariants.{FirmMdq, AuctionMdq, FirmSchedule, AuctionSchedule, LowerTierSchedule}
use Rattle.dayvalues.specs.Column.{place_of, column_check}

-- the five columns, in tag 2's order
unfoldable pub columns_check : Counts → List ℕ → Check
columns_check counts numbers =
    column_check counts numbers (place_of FirmMdq) most_rows
    then column_check counts numbers (place_of AuctionMdq) most_rows
    then column_check counts numbers (place_of FirmSchedule) most_rows
    then column_check counts numbers (place_of AuctionSchedule) most_rows
    then column_check counts numbers (place_of LowerTierSchedule) most_rows

-- 9 and 3: the counts, the capacities, then each column
unfoldable pub early_check : Day → List ℕ → Check
early_check day numbers =
    Ok tt
    then keep (eqb (length numbers) (numbers_in day.counts)) 9
    then counts_check day.counts
    then keep (leb day.head.free_flow.0 most_gigajoules) 3
    then keep (leb day.head.compressor.0 most_gigajoules) 3
    then columns_check day.counts numbers
