-- 01, "The day file": a day's bytes.
use Rattle.std.specs.Prelude.{List, [], ◌∷◌, ◌++◌, ℕ, ◌+◌}
use Rattle.columns.specs.Column.{listed, joined}
use Rattle.dayformat.specs.declared.day.Day.{Day}
use Rattle.dayformat.specs.declared.day.Head.{Head}
use Rattle.dayformat.specs.declared.form.Tag.{Tag}
use Rattle.dayformat.specs.declared.layout.Counts.{Counts}
use Rattle.dayformat.specs.Format.{many_tables, tag_at, form, field}
use Rattle.dayformat.specs.Layout.{count, row_start}

-- the numbers of a row that begins at a place
abbrev pub row_from : (ℕ → ℕ) → Tag → ℕ → List ℕ
row_from numbers tag at = listed (form tag).columns (λ place. numbers (at + place))

abbrev pub head_row : Head → List ℕ
head_row head = head.day ∷ head.free_flow.0 ∷ head.compressor.0 ∷ []

-- the fields of one tag
abbrev pub fields : Counts → (ℕ → ℕ) → Tag → List ℕ
fields counts numbers tag = joined (count counts tag) (λ row. field tag (row_from numbers tag (row_start counts tag row)))

-- the head's field, then those of each tag in file order
unfoldable pub file_of : Day → (ℕ → ℕ) → List ℕ
file_of day numbers =
    field Tag.Head (head_row day.head) ++ joined many_tables (λ place. fields day.counts numbers (tag_at place))
