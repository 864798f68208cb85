-- 01, "A day's shares": what a day is shared from.
use Rattle.std.specs.Prelude.{List, ℕ, length}
use Rattle.daytable.specs.declared.DayTable.{DayTable}

-- both capacities, and the lists in the order of the day file's tag 2
pub record Table : Type 0 where
  pub free_flow : ℕ
  pub compressor : ℕ
  pub firm_mdq : List ℕ
  pub auction_mdq : List ℕ
  pub firm_schedule : List ℕ
  pub auction_schedule : List ℕ
  pub lower_tier_schedule : List ℕ

abbrev pub rows : Table → ℕ
rows T = length T.firm_mdq

-- the table that the program holds, its figures as numbers
abbrev pub contents : DayTable → Table
contents table =
    record {
      free_flow = table.free_flow.0;
      compressor = table.compressor.0;
      firm_mdq = table.firm_mdq.now;
      auction_mdq = table.auction_mdq.now;
      firm_schedule = table.firm_schedule.now;
      auction_schedule = table.auction_schedule.now;
      lower_tier_schedule = table.lower_tier_schedule.now;
    }
