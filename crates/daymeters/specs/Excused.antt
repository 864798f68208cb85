-- The table of excused gas, C-14 and cl. 5.4: a row's tests, its shipper, what is excused of its meter's hours.
use Rattle.std.specs.Prelude.{List, ℕ, Result}
use Rattle.columns.specs.Column.{col}
use Rattle.units.specs.declared.Megajoules.{Megajoules}
use Rattle.dayformat.specs.declared.form.Tag.TheVariants.{Excused}
use Rattle.dayformat.specs.declared.layout.Counts.{Counts}
use Rattle.dayvalues.specs.Row.{number_at, row_beginning, row_check}
use Rattle.dayvalues.specs.Shippers.{shipper_where}
use Rattle.daymeters.specs.Hours.{yesterday_of, today_of}
use Rattle.units.specs.Refusals.{Check}
use Rattle.units.specs.declared.refusal.Refusal.{Refusal}

-- refused: 9; 3 a count, a row beyond its count, one of its numbers
abbrev pub excused_row_check : Counts → List ℕ → ℕ → Check
excused_row_check counts numbers row = row_check counts numbers Excused row

-- tag 9: shipper, the hours
abbrev pub excused_at : ℕ
excused_at = 1

abbrev pub excused_shipper : Counts → List ℕ → ℕ → Result ℕ Refusal
excused_shipper counts numbers row = shipper_where (excused_row_check counts numbers row) (number_at counts (col numbers) Excused row 0)

-- the first row of a shipper, or the number of rows where it has none
abbrev pub excused_row : Counts → (ℕ → ℕ) → ℕ → ℕ
excused_row counts numbers shipper = row_beginning counts numbers Excused shipper

abbrev pub excused_yesterday : Counts → List ℕ → ℕ → List Megajoules
excused_yesterday counts numbers row = yesterday_of counts numbers Excused row excused_at

abbrev pub excused_hours : Counts → List ℕ → ℕ → List (List Megajoules)
excused_hours counts numbers row = today_of counts numbers Excused row excused_at
