-- What private routines and laws ask of a tag and of a day's counts.
use Rattle.std.specs.Prelude.{◌≡◌, ℕ, ◌≤◌, ◌<◌}
use Rattle.dayformat.specs.declared.form.Tag.{Tag}
use Rattle.dayformat.specs.declared.layout.Counts.{Counts}
use Rattle.dayformat.specs.Format.{many_tables, tag_at, table_place, form}
use Rattle.dayformat.specs.Layout.{count}

-- a tag that has a table stands at its place; the head alone has none
abbrev pub HasTable : Tag → Type 0
HasTable tag = tag_at (table_place tag) ≡ tag

-- no tag has more fields than it may
abbrev pub Few : Counts → Type 0
Few counts = (tag : Tag) → count counts tag ≤ (form tag).most

-- the first so many tables have as many rows, and those from a place on have none
abbrev pub Agree : ℕ → Counts → Counts → Type 0
Agree many c d = (place : ℕ) → place < many → count c (tag_at place) ≡ count d (tag_at place)

abbrev pub NoneFrom : ℕ → Counts → Type 0
NoneFrom many c = (place : ℕ) → many ≤ place → place < many_tables → count c (tag_at place) ≡ 0
