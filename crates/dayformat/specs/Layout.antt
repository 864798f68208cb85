-- A day's numbers: its tables one after another in file order, row after row. The head stands by itself.
use Rattle.std.specs.Prelude.{cond, ℕ, ◌+◌, ◌*◌, eqb}
use Rattle.columns.specs.Sum.{sum}
use Rattle.dayformat.specs.declared.form.Tag.{Tag}
use Rattle.dayformat.specs.declared.form.Tag.TheVariants.{Head, Shipper, Point, Entry, Meter, Excused}
use Rattle.dayformat.specs.declared.layout.Counts.{Counts}
use Rattle.dayformat.specs.Format.{body, tag_byte, most, many_tables, tag_at, table_place, numbers_of, field_size}

-- ---- a day has one head; the other counts read, and made of a figure for each tag
abbrev pub count : Counts → Tag → ℕ
count counts Head = 1
count counts Shipper = counts.shippers
count counts Point = counts.points
count counts Entry = counts.entries
count counts Meter = counts.meters
count counts Excused = counts.excused

abbrev pub counts_of : (Tag → ℕ) → Counts
counts_of figure =
    record {
      shippers = figure Shipper;
      points = figure Point;
      entries = figure Entry;
      meters = figure Meter;
      excused = figure Excused;
    }

-- the counts before anything is read, with so many rows of a tag, and of a full day
abbrev pub no_rows : Counts
no_rows = counts_of (λ tag. 0)

abbrev pub with_count : Counts → Tag → ℕ → Counts
with_count counts tag rows = counts_of (λ other. cond (eqb (tag_byte other) (tag_byte tag)) rows (count counts other))

abbrev pub most_counts : Counts
most_counts = counts_of most

-- ---- how many numbers a table holds, the first so many tables, and a day at most
abbrev pub held : Counts → Tag → ℕ
held counts tag = count counts tag * numbers_of (body tag)

abbrev pub numbers_before : Counts → ℕ → ℕ
numbers_before counts many = sum many (λ place. held counts (tag_at place))

abbrev pub numbers_in : Counts → ℕ
numbers_in counts = numbers_before counts many_tables

abbrev pub most_numbers : ℕ
most_numbers = numbers_in most_counts

-- where a table begins, and a row
abbrev pub table_start : Counts → Tag → ℕ
table_start counts tag = numbers_before counts (table_place tag)

abbrev pub row_start : Counts → Tag → ℕ → ℕ
row_start counts tag row = table_start counts tag + row * numbers_of (body tag)

-- ---- how many bytes a day's fields of a tag have, the head's with those of the first so many tables, and its file
abbrev pub run_size : Counts → Tag → ℕ
run_size counts tag = count counts tag * field_size tag

abbrev pub bytes_before : Counts → ℕ → ℕ
bytes_before counts many = run_size counts Head + sum many (λ place. run_size counts (tag_at place))

abbrev pub file_size : Counts → ℕ
file_size counts = bytes_before counts many_tables

-- where the fields of a table begin in the file
abbrev pub fields_start : Counts → Tag → ℕ
fields_start counts tag = bytes_before counts (table_place tag)
