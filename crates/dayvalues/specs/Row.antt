-- A row of a day's table: its numbers, and its tests.
use Rattle.std.specs.Prelude.{Bool, cond, not, List, ℕ, ◌+◌, ltb, eqb, length, Ok}
use Rattle.columns.specs.Column.{col}
use Rattle.columns.specs.First.{first}
use Rattle.units.specs.Refusals.{◌then◌, keep, clear, Check}
use Rattle.dayformat.specs.declared.form.Tag.{Tag}
use Rattle.dayformat.specs.declared.layout.Counts.{Counts}
use Rattle.dayformat.specs.Format.{body, column_in}
use Rattle.dayformat.specs.Layout.{count, row_start, numbers_in}
use Rattle.dayformat.specs.Acceptance.{counts_check}
use Rattle.dayrows.specs.Test.{in_bounds, bounded}

-- the number at a place of a row
abbrev pub number_at : Counts → (ℕ → ℕ) → Tag → ℕ → ℕ → ℕ
number_at counts numbers tag row place = numbers (row_start counts tag row + place)

-- it is beyond its bounds
unfoldable pub beyond : Counts → (ℕ → ℕ) → Tag → ℕ → ℕ → Bool
beyond counts numbers tag row place = not (in_bounds (column_in (body tag) place) (number_at counts numbers tag row place))

-- the row, where one of its numbers is; else the number of rows
unfoldable pub beyond_row : Counts → (ℕ → ℕ) → Tag → ℕ → ℕ
beyond_row counts numbers tag row = cond (bounded numbers tag (row_start counts tag row)) (count counts tag) row

-- the first row of a table that begins with a number, or the number of rows
abbrev pub row_beginning : Counts → (ℕ → ℕ) → Tag → ℕ → ℕ
row_beginning counts numbers tag number = first (count counts tag) (λ row. eqb (number_at counts numbers tag row 0) number)

-- refused: 9 not as many numbers as the counts say; 3 a count, a row beyond its count, one of its numbers
unfoldable pub row_check : Counts → List ℕ → Tag → ℕ → Check
row_check counts numbers tag row =
    Ok tt
    then keep (eqb (length numbers) (numbers_in counts)) 9
    then counts_check counts
    then keep (ltb row (count counts tag)) 3
    then clear (count counts tag) (beyond_row counts (col numbers) tag row) 3
