-- The tests decide an answer for a column or a row of a day's numbers: number 0 exactly where they accept, zeros where they refuse.
use Rattle.std.specs.Prelude.{Result}
use mathlib.Core.Path.{◌≡◌, refl}
use mathlib.Core.List.{List}
use Prim.Native.Nat.{ℕ}
use lib.ListN.{length}
use Rattle.columns.specs.Column.{col}
use Rattle.units.specs.Verdict.{of_check, Decided}
use Rattle.units.proofs.Verdicts.{AllNumbered, none, ◌and◌, kept_by, cleared_by, decided, checked}
use Rattle.dayformat.specs.declared.form.Tag.{Tag}
use Rattle.dayformat.specs.declared.layout.Counts.{Counts}
use Rattle.dayformat.specs.Layout.{count}
use Rattle.dayformat.proofs.Decided.{counts_numbered}
use Rattle.dayvalues.specs.declared.column.ShipperColumn.{ShipperColumn}
use Rattle.dayvalues.specs.Row.{row_check}
use Rattle.dayvalues.specs.Column.{ColumnAnswered, column_answer, column_check, column_verdict, place_of}
use Rattle.dayvalues.specs.Shippers.{shipper_answer, shipper_of, shipper_verdict, shipper_where}
use Rattle.dayvalues.specs.Points.{point_answer, point_of, point_verdict, point_where}
use Rattle.units.specs.Refusals.{Check}
use Rattle.dayvalues.specs.declared.points.Point.{Point}
use Rattle.units.specs.declared.refusal.Refusal.{Refusal}

-- ---- a column
column_numbered : (counts : Counts) (numbers : List ℕ) (place room : ℕ) → AllNumbered (column_check counts numbers place room)
unfolding column_check
column_numbered counts numbers place room =
    none and kept_by _ 9 tt tt and counts_numbered counts and cleared_by _ _ 3 tt tt and kept_by _ 7 tt tt

pub column-checked : (counts : Counts) (numbers : List ℕ) (which : ShipperColumn) (room : ℕ) {found : Check}
    → found ≡ column_check counts numbers (place_of which) room → Decided (column_check counts numbers (place_of which) room) tt tt
    (of_check found)
column-checked counts numbers which room = checked (column_numbered counts numbers (place_of which) room)

pub column_decided : {counts : Counts} {numbers : List ℕ} {which : ShipperColumn} {lent after : List ℕ} {rows : Result ℕ Refusal}
    → ColumnAnswered counts numbers which lent rows after
    → Decided (column_check counts numbers (place_of which) (length lent)) (count counts Tag.Shipper) 0 (column_verdict rows)
column_decided {counts} {numbers} {which} {lent} A =
    decided column_answer column_verdict refl (λ refusal. refl) (column_numbered counts numbers (place_of which) (length lent)) A.answers

-- ---- a row
module _ (counts : Counts) (numbers : List ℕ) (row : ℕ) where
  pub row_numbered : (tag : Tag) → AllNumbered (row_check counts numbers tag row)
  unfolding row_check
  row_numbered tag = none and kept_by _ 9 tt tt and counts_numbered counts and kept_by _ 3 tt tt and cleared_by _ _ 3 tt tt

  pub row_decided : (tag : Tag) {found : Check} → found ≡ row_check counts numbers tag row
      → Decided (row_check counts numbers tag row) tt tt (of_check found)
  row_decided tag = checked (row_numbered tag)

  pub shipper_decided : {answer : Result ℕ Refusal} → answer ≡ shipper_answer counts numbers row
      → Decided (row_check counts numbers Tag.Shipper row) (shipper_of counts (col numbers) row) 0 (shipper_verdict answer)
  shipper_decided = decided shipper_where shipper_verdict refl (λ refusal. refl) (row_numbered Tag.Shipper)

  pub point_decided : {answer : Result Point Refusal} → answer ≡ point_answer counts numbers row
      → Decided (row_check counts numbers Tag.Point row) (point_of counts (col numbers) row)
      (record { side = 0; point = 0; capacity = record { 0 = 0 } }) (point_verdict answer)
  point_decided = decided point_where point_verdict refl (λ refusal. refl) (row_numbered Tag.Point)
