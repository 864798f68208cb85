-- The columns of a day's numbers, where each is accepted, make its table.
use Rattle.std.specs.Prelude.{Result, Ok}
use mathlib.Core.Path.{◌≡◌, ap, sym, ◌∙◌}
use mathlib.Core.List.{List}
use Prim.Native.Nat.{ℕ, ◌≤◌}
use native.Mathlib.Omega.{arith}
use lib.ListN.{length, take, replicate, length-replicate}
use lib.Seq.{length-sets}
use Rattle.columns.specs.Column.{col, listed}
use Rattle.columns.proofs.Lists.{take-sets, length-listed}
use Rattle.units.specs.Bound.{most_rows}
use Rattle.units.proofs.Checks.{both-accepted}
use Rattle.daytable.specs.Table.{Table}
use Rattle.dayformat.specs.declared.day.Day.{Day}
use Rattle.dayformat.specs.declared.form.Tag.TheVariants.{Shipper}
use Rattle.dayformat.specs.declared.layout.Counts.{Counts}
use Rattle.dayformat.specs.Layout.{count}
use Rattle.dayvalues.specs.declared.column.ShipperColumn.{ShipperColumn}
use Rattle.dayvalues.specs.Column.{ColumnAnswered, column, column_check, place_of, with_column}
use Rattle.dayvalues.proofs.Accepting.{column-accepted}
use Rattle.numbershares.specs.DayTable.{table_of}
use Rattle.numbershares.specs.Private.{columns_check, early_check}
use Rattle.units.specs.declared.refusal.Refusal.{Refusal}

-- ---- acceptance of all is acceptance of each
pub record ColumnsAccepted (counts : Counts) (numbers : List ℕ) : Type 0 where
  pub one : column_check counts numbers 1 most_rows ≡ Ok tt
  pub two : column_check counts numbers 2 most_rows ≡ Ok tt
  pub three : column_check counts numbers 3 most_rows ≡ Ok tt
  pub four : column_check counts numbers 4 most_rows ≡ Ok tt
  pub five : column_check counts numbers 5 most_rows ≡ Ok tt

pub columns_accepted : (day : Day) (numbers : List ℕ) → early_check day numbers ≡ Ok tt → ColumnsAccepted day.counts numbers
unfolding early_check columns_check
columns_accepted day numbers e =
    let five = both-accepted _ _ (both-accepted _ _ e).1 in
    let four = both-accepted _ _ five.0 in
    let three = both-accepted _ _ four.0 in
    let two = both-accepted _ _ three.0 in
    record { one = two.0; two = two.1; three = three.1; four = four.1; five = five.1 }

-- there are no more rows than a table has
pub few-rows : (counts : Counts) (numbers : List ℕ) → ColumnsAccepted counts numbers → count counts Shipper ≤ most_rows
few-rows counts numbers E =
    let long = length-replicate {A = ℕ} most_rows 0 in
    omega (
      arith,
      long,
      (column-accepted counts numbers 1 (replicate most_rows 0) (omega arith) (omega arith) (rw long E.one)).fits,
    )

-- ---- a column laid into zeros
pub column-had : (counts : Counts) (numbers : List ℕ) (which : ShipperColumn) {rows : Result ℕ Refusal} {after : List ℕ}
    → ColumnAnswered counts numbers which (replicate most_rows 0) rows after
    → column_check counts numbers (place_of which) most_rows ≡ Ok tt
    → after ≡ with_column counts (col numbers) (place_of which) (replicate most_rows 0)
column-had counts numbers which A e =
    let long = length-replicate {A = ℕ} most_rows 0 in
    A.leaves ∙ rw (long, e)

-- is long enough for its part, which has so many rows
module _ (counts : Counts) (numbers : List ℕ) (place : ℕ) (few : count counts Shipper ≤ most_rows) {laid : List ℕ}
    (is : laid ≡ with_column counts (col numbers) place (replicate most_rows 0)) where
  pub part_is : take (count counts Shipper) laid ≡ listed (count counts Shipper) (column counts (col numbers) place)
  part_is =
      ap (take (count counts Shipper)) is
      ∙ take-sets (count counts Shipper) (column counts (col numbers) place) (replicate most_rows 0)
      (omega (arith, few, length-replicate {A = ℕ} most_rows 0))

  pub part-inside : count counts Shipper ≤ length laid
  part-inside =
      omega (
        arith,
        few,
        ap length is,
        length-sets (replicate most_rows 0) 0 (listed (count counts Shipper) (column counts (col numbers) place)),
        length-replicate {A = ℕ} most_rows 0,
      )

  pub part_long : count counts Shipper ≡ length (take (count counts Shipper) laid)
  part_long = sym (ap length part_is ∙ length-listed _ _)

-- ---- the five make the table
module _ (day : Day) (numbers : List ℕ) {firm_mdq auction_mdq firm_schedule auction_schedule lower_tier_schedule : List ℕ}
    (one : firm_mdq ≡ listed (count day.counts Shipper) (column day.counts (col numbers) 1))
    (two : auction_mdq ≡ listed (count day.counts Shipper) (column day.counts (col numbers) 2))
    (three : firm_schedule ≡ listed (count day.counts Shipper) (column day.counts (col numbers) 3))
    (four : auction_schedule ≡ listed (count day.counts Shipper) (column day.counts (col numbers) 4))
    (five : lower_tier_schedule ≡ listed (count day.counts Shipper) (column day.counts (col numbers) 5)) where
  abbrev pub made : Table
  made =
      record {
        free_flow = day.head.free_flow.0;
        compressor = day.head.compressor.0;
        firm_mdq = firm_mdq;
        auction_mdq = auction_mdq;
        firm_schedule = firm_schedule;
        auction_schedule = auction_schedule;
        lower_tier_schedule = lower_tier_schedule;
      }

  pub table_is : made ≡ table_of day (col numbers)
  table_is = rw (one, two, three, four, five)
