-- 01, "An hour at a point": the entries of a point among the rows of a day's tag 4 table.
use Rattle.std.specs.Prelude.{Bool, false, cond, not, List, ℕ, ◌+◌, ◌-◌, eqb}
use Rattle.columns.specs.Column.{joined}
use Rattle.columns.specs.First.{first}
use Rattle.dayformat.specs.declared.form.Tag.TheVariants.{Entry}
use Rattle.dayformat.specs.declared.layout.Counts.{Counts}
use Rattle.dayformat.specs.Layout.{count, row_start}
use Rattle.dayformat.specs.Format.{field}
use Rattle.dayformat.specs.DayBytes.{row_from}
use Rattle.dayvalues.specs.Row.{number_at}

-- tag 4: side, point, shipper, RE
unfoldable pub is_entry : Counts → (ℕ → ℕ) → ℕ → ℕ → ℕ → Bool
is_entry counts numbers side point row =
    cond (eqb (number_at counts numbers Entry row 0) side) (eqb (number_at counts numbers Entry row 1) point) false

-- the point's first row, or the number of rows; and how many rows from there on are the point's
abbrev pub first_row : Counts → (ℕ → ℕ) → ℕ → ℕ → ℕ
first_row counts numbers side point = first (count counts Entry) (is_entry counts numbers side point)

abbrev pub many_rows : Counts → (ℕ → ℕ) → ℕ → ℕ → ℕ
many_rows counts numbers side point =
    first (count counts Entry - first_row counts numbers side point)
    (λ more. not (is_entry counts numbers side point (first_row counts numbers side point + more)))

-- the number at a place of one of them
abbrev pub entry_number : Counts → (ℕ → ℕ) → ℕ → ℕ → ℕ → ℕ → ℕ
entry_number counts numbers side point entry place = number_at counts numbers Entry (first_row counts numbers side point + entry) place

-- their fields, one after another
abbrev pub entry_field : Counts → (ℕ → ℕ) → ℕ → List ℕ
entry_field counts numbers row = field Entry (row_from numbers Entry (row_start counts Entry row))

abbrev pub point_fields : Counts → (ℕ → ℕ) → ℕ → ℕ → List ℕ
point_fields counts numbers side point =
    joined (many_rows counts numbers side point) (λ entry. entry_field counts numbers (first_row counts numbers side point + entry))
