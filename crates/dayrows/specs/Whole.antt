-- 01, "Refusal numbers": whether a field of a tag stands whole at a byte of a file, and its row in a list.
use Rattle.std.specs.Prelude.{false, cond, List, ℕ, ◌+◌, ltb, eqb, length, take, drop, Ok, Err}
use Rattle.std.proofs.lemmas.List.Edits.{sets}
use Rattle.columns.specs.Column.{col}
use Rattle.bigendian.specs.Number.{value}
use Rattle.bigendian.specs.Row.{decode}
use Rattle.dayformat.specs.declared.form.Tag.{Tag}
use Rattle.dayformat.specs.declared.layout.Counts.{Counts}
use Rattle.dayformat.specs.Format.{widths, length_width, header, field_size, form}
use Rattle.dayformat.specs.Layout.{row_start}
use Rattle.dayrows.specs.declared.fault.Fault.TheVariants.{Cut, Foreign}
use Rattle.dayrows.specs.Fault.{Found}

-- 1 where the file ends within the header, 2 for another tag or length, 1 where it ends within the body
unfoldable pub broken : List ℕ → Tag → ℕ → Found
broken file tag at =
    cond (ltb (length file) (at + header)) (Err Cut)
    (cond (cond (eqb (col file at) (form tag).byte) (eqb (value (take length_width (drop (at + 1) file))) (form tag).size) false)
    (cond (ltb (length file) (at + field_size tag)) (Err Cut) (Ok tt))
    (Err Foreign))

-- its row goes into a lent list
abbrev pub with_row : Counts → List ℕ → Tag → ℕ → ℕ → List ℕ → List ℕ
with_row counts file tag at row lent = sets lent (row_start counts tag row) (decode (widths tag) (drop (at + header) file))
