-- 01, "An hour at a point": a day's tag 4 fields as a receipt list and a delivery list.
use Rattle.std.specs.Prelude.{◌≡◌, true, List, ℕ, ◌+◌, ◌*◌, ◌/◌, ◌≤◌, ◌<◌, eqb, length, take, drop, Ok}
use Rattle.columns.specs.Column.{col}
use Rattle.columns.specs.First.{first}
use Rattle.dayformat.specs.declared.form.Tag.TheVariants.{Entry}
use Rattle.dayformat.specs.declared.layout.Counts.{Counts}
use Rattle.dayformat.specs.Format.{header, field_size}
use Rattle.dayformat.specs.Layout.{count, run_size, fields_start}
use Rattle.pointentries.specs.Entries.{asked, entries_check, part_start, part_long}
use Rattle.entrylists.specs.PointRows.{is_entry, first_row, many_rows, point_fields}

-- the byte at which the first whole field of side 1 begins, or the end of the last; a side is one byte behind the header
abbrev pub first_delivery : List ℕ → ℕ
first_delivery list =
    first (length list / field_size Entry) (λ row. eqb (col list (row * field_size Entry + header)) 1) * field_size Entry

-- the fields before the first of side 1, and those from it on
abbrev pub receipt_list : List ℕ → List ℕ
receipt_list list = take (first_delivery list) list

abbrev pub delivery_list : List ℕ → List ℕ
delivery_list list = drop (first_delivery list) list

-- a file's tag 4 bytes, behind the fields of the tags before
abbrev pub entries_start : Counts → ℕ
entries_start counts = fields_start counts Entry

abbrev pub entry_bytes : Counts → List ℕ → List ℕ
entry_bytes counts file = take (run_size counts Entry) (drop (entries_start counts) file)

-- the list asked for is accepted, its part for a point is the fields of the day's entries of that point, and these are all of them
pub record Parted (counts : Counts) (numbers : ℕ → ℕ) (list : List ℕ) (side point : ℕ) : Type 0 where
  pub accepted : entries_check (receipt_list list) (delivery_list list) side point ≡ Ok tt
  pub part :
      take (part_long (receipt_list list) (delivery_list list) side point)
      (drop (part_start (receipt_list list) (delivery_list list) side point)
      (asked side (receipt_list list) (delivery_list list)))
      ≡ point_fields counts numbers side point
  pub every : (row : ℕ) → row < count counts Entry → is_entry counts numbers side point row ≡ true
      → (first_row counts numbers side point ≤ row)
      × (row < first_row counts numbers side point + many_rows counts numbers side point)
