-- Each column is accepted and its part has the rows; the table that they make is the day's.
use Rattle.std.specs.Prelude.{Ok}
use mathlib.Core.Path.{◌≡◌}
use mathlib.Core.List.{List}
use Prim.Native.Nat.{ℕ, ◌≤◌}
use Rattle.units.specs.Bound.{most_rows}
use Rattle.dayformat.specs.declared.day.Day.{Day}
use Rattle.dayformat.specs.declared.form.Tag.TheVariants.{Shipper}
use Rattle.dayformat.specs.Layout.{count}
use Rattle.numbershares.specs.Private.{early_check}
use Rattle.numbershares.proofs.Columns.{columns_accepted, few-rows, part_is, part-inside, part_long, table_is}
use Rattle.numbershares.proofs.share_columns.Goals as goal

-- an accepted day has no more rows than a table has
few : (day : Day) (numbers : List ℕ) → early_check day numbers ≡ Ok tt → count day.counts Shipper ≤ most_rows
few day numbers e = few-rows day.counts numbers (columns_accepted day numbers e)

pub column_of-firm_mdq-requires : goal.column_of-firm_mdq-requires
column_of-firm_mdq-requires c = (columns_accepted _ _ c.requires).one

pub column_of-auction_mdq-requires : goal.column_of-auction_mdq-requires
column_of-auction_mdq-requires c = (columns_accepted _ _ c.requires).two

pub column_of-firm_schedule-requires : goal.column_of-firm_schedule-requires
column_of-firm_schedule-requires c = (columns_accepted _ _ c.requires).three

pub column_of-auction_schedule-requires : goal.column_of-auction_schedule-requires
column_of-auction_schedule-requires c = (columns_accepted _ _ c.requires).four

pub column_of-lower_tier_schedule-requires : goal.column_of-lower_tier_schedule-requires
column_of-lower_tier_schedule-requires c = (columns_accepted _ _ c.requires).five

pub slice_bounds-firm_mdq-end : goal.slice_bounds-firm_mdq-end
slice_bounds-firm_mdq-end c = part-inside _ _ 1 (few _ _ c.requires) c.column_of-firm_mdq.ensures

pub slice_bounds-table-end : goal.slice_bounds-table-end
slice_bounds-table-end c = part_long _ _ 1 (few _ _ c.requires) c.column_of-firm_mdq.ensures

pub slice_bounds-auction_mdq-end : goal.slice_bounds-auction_mdq-end
slice_bounds-auction_mdq-end c = part-inside _ _ 2 (few _ _ c.requires) c.column_of-auction_mdq.ensures

pub slice_bounds-table-end-2 : goal.slice_bounds-table-end-2
slice_bounds-table-end-2 c = part_long _ _ 2 (few _ _ c.requires) c.column_of-auction_mdq.ensures

pub slice_bounds-firm_schedule-end : goal.slice_bounds-firm_schedule-end
slice_bounds-firm_schedule-end c = part-inside _ _ 3 (few _ _ c.requires) c.column_of-firm_schedule.ensures

pub slice_bounds-table-end-3 : goal.slice_bounds-table-end-3
slice_bounds-table-end-3 c = part_long _ _ 3 (few _ _ c.requires) c.column_of-firm_schedule.ensures

pub slice_bounds-auction_schedule-end : goal.slice_bounds-auction_schedule-end
slice_bounds-auction_schedule-end c = part-inside _ _ 4 (few _ _ c.requires) c.column_of-auction_schedule.ensures

pub slice_bounds-table-end-4 : goal.slice_bounds-table-end-4
slice_bounds-table-end-4 c = part_long _ _ 4 (few _ _ c.requires) c.column_of-auction_schedule.ensures

pub slice_bounds-lower_tier_schedule-end : goal.slice_bounds-lower_tier_schedule-end
slice_bounds-lower_tier_schedule-end c = part-inside _ _ 5 (few _ _ c.requires) c.column_of-lower_tier_schedule.ensures

pub slice_bounds-table-end-5 : goal.slice_bounds-table-end-5
slice_bounds-table-end-5 c = part_long _ _ 5 (few _ _ c.requires) c.column_of-lower_tier_schedule.ensures

pub shape_of-firm : goal.shape_of-firm
shape_of-firm c = c.share_day.auto.firm

pub shape_of-auction : goal.shape_of-auction
shape_of-auction c = c.share_day.auto.auction

pub shape_of-lower_tier : goal.shape_of-lower_tier
shape_of-lower_tier c = c.share_day.auto.lower_tier

pub returns : goal.returns
returns c =
    let small = few _ _ c.requires in
    rw (table_is c.args.day c.args.numbers.now
    (part_is _ _ 1 small c.column_of-firm_mdq.ensures)
    (part_is _ _ 2 small c.column_of-auction_mdq.ensures)
    (part_is _ _ 3 small c.column_of-firm_schedule.ensures)
    (part_is _ _ 4 small c.column_of-auction_schedule.ensures)
    (part_is _ _ 5 small c.column_of-lower_tier_schedule.ensures)) at
    c.share_day.ensures
