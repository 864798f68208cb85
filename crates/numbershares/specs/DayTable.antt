-- What a day's shares are shared from: the head's capacities and the shipper table's columns.
use Rattle.std.specs.Prelude.{ℕ}
use Rattle.columns.specs.Column.{listed}
use Rattle.daytable.specs.Table.{Table}
use Rattle.dayformat.specs.declared.day.Day.{Day}
use Rattle.dayformat.specs.declared.form.Tag.TheVariants.{Shipper}
use Rattle.dayformat.specs.Layout.{count}
use Rattle.dayvalues.specs.declared.column.ShipperColumn.TheVariants.{FirmMdq, AuctionMdq, FirmSchedule, AuctionSchedule, LowerTierSchedule}
use Rattle.dayvalues.specs.Column.{place_of, column}

-- the lists in the order of tag 2
abbrev pub table_of : Day → (ℕ → ℕ) → Table
table_of day numbers =
    record {
      free_flow = day.head.free_flow.0;
      compressor = day.head.compressor.0;
      firm_mdq = listed (count day.counts Shipper) (column day.counts numbers (place_of FirmMdq));
      auction_mdq = listed (count day.counts Shipper) (column day.counts numbers (place_of AuctionMdq));
      firm_schedule = listed (count day.counts Shipper) (column day.counts numbers (place_of FirmSchedule));
      auction_schedule = listed (count day.counts Shipper) (column day.counts numbers (place_of AuctionSchedule));
      lower_tier_schedule = listed (count day.counts Shipper) (column day.counts numbers (place_of LowerTierSchedule));
    }
