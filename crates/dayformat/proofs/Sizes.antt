-- How many bytes a field, the fields of a tag, and a file have.
use mathlib.Core.Path.{◌≡◌, refl}
use mathlib.Core.List.{List, ◌++◌}
use Prim.Native.Nat.{ℕ, ◌*◌, ◌^◌, ◌<◌}
use native.Mathlib.Nat.{mul-le-mul_left}
use native.Mathlib.Omega.{arith}
use lib.ListN.{length, length-append}
use Rattle.columns.specs.Column.{listed, joined}
use Rattle.columns.proofs.Lists.{length-listed}
use Rattle.columns.proofs.Joined.{length-joined, length-joined-sum}
use Rattle.columns.proofs.Sums.{sum_cong}
use Rattle.bigendian.specs.Row.{size}
use Rattle.bigendian.proofs.Numbers.{length-bytes}
use Rattle.bigendian.proofs.Rows.{length-encode}
use Rattle.dayformat.specs.declared.day.Day.{Day}
use Rattle.dayformat.specs.declared.form.Tag.{Tag}
use Rattle.dayformat.specs.declared.layout.Counts.{Counts}
use Rattle.dayformat.specs.Format.{many_tables, tag_at, column_in, widths, field_size, form, field}
use Rattle.dayformat.specs.Layout.{count, row_start, run_size, bytes_before, file_size}
use Rattle.dayformat.specs.DayBytes.{row_from, head_row, fields, file_of}
use Rattle.dayformat.proofs.Small.{small}

pub length-field : (tag : Tag) (row : List ℕ) → length row ≡ (form tag).columns → length (field tag row) ≡ field_size tag
length-field tag row e =
    rw (length-append, length-bytes, length-encode (widths tag) row (rw length-listed e))

module _ (numbers : ℕ → ℕ) (tag : Tag) where
  pub length-row-field : (from : ℕ) → length (field tag (row_from numbers tag from)) ≡ field_size tag
  length-row-field from = length-field tag (row_from numbers tag from) (length-listed _ _)

  pub length_fields : (counts : Counts) → length (fields counts numbers tag) ≡ run_size counts tag
  length_fields counts = length-joined _ (field_size tag) (λ row. length-row-field (row_start counts tag row)) (count counts tag)

-- the head's field and those of the first so many tables have as many bytes as the counts say
pub length-tables : (day : Day) (numbers : ℕ → ℕ) (many : ℕ)
    → length (field Tag.Head (head_row day.head) ++ joined many (λ place. fields day.counts numbers (tag_at place)))
    ≡ bytes_before day.counts many
length-tables day numbers many =
    rw (length-append, length-field Tag.Head (head_row day.head) refl)
    (omega (
      arith,
      length-joined-sum many (λ place. fields day.counts numbers (tag_at place)),
      sum_cong many _ _ (λ place l. length_fields numbers (tag_at place) day.counts),
    ))

pub length-file_of : (day : Day) (numbers : ℕ → ℕ) → length (file_of day numbers) ≡ file_size day.counts
unfolding file_of
length-file_of day numbers = length-tables day numbers many_tables

-- the fields of the first table begin so many bytes in
pub head-size : field_size Tag.Head ≡ 15
unfolding size listed column_in
head-size = refl

-- an entry's field has twelve bytes
pub entry-size : field_size Tag.Entry ≡ 12
unfolding size listed column_in
entry-size = refl

-- so many fields of a tag have so few bytes
pub fields-small : (tag : Tag) (rows : ℕ) → rows < 2 ^ 32 → rows * field_size tag < 2 ^ 41
fields-small tag rows l = omega (arith, mul-le-mul_left {m = field_size tag} {n = 273} rows (omega (arith, (small tag).size)))
