-- The listing of a day's points: DAY number; then for each point POINT, side, point and capacity, and its entries' shares.
use Rattle.std.specs.Prelude.{List, [], ◌∷◌, ◌++◌, ℕ}
use Rattle.columns.specs.Column.{col, joined}
use Rattle.text.specs.Text.{decimal}
use Rattle.lines.specs.Line.{line, decimals, day_word}
use Rattle.dayformat.specs.declared.day.Day.{Day}
use Rattle.dayformat.specs.declared.form.Tag.TheVariants.{Point}
use Rattle.dayformat.specs.declared.layout.Counts.{Counts}
use Rattle.dayformat.specs.Layout.{count}
use Rattle.dayvalues.specs.Row.{number_at}
use Rattle.pointhours.specs.HourText.{hour_lines, firm_mdq}
use Rattle.dayfile.specs.File.{tables}
use Rattle.dayfile.specs.Answer.{day_of}
use Rattle.entrylists.specs.PointRows.{many_rows, entry_number}

-- POINT
abbrev pub point_word : List ℕ
point_word = 80 ∷ 79 ∷ 73 ∷ 78 ∷ 84 ∷ []

abbrev pub day_line : ℕ → List ℕ
day_line day = line (day_word ∷ decimal day ∷ [])

abbrev pub point_line : ℕ → ℕ → ℕ → List ℕ
point_line side point capacity = line (point_word ∷ decimals (side ∷ point ∷ capacity ∷ []))

-- tag 4: side, point, shipper, RE
abbrev pub entry_lines : Counts → (ℕ → ℕ) → ℕ → ℕ → ℕ → List ℕ
entry_lines counts numbers side point capacity =
    let shipper : ℕ → ℕ = λ entry. entry_number counts numbers side point entry 2 in
    let entitlement : ℕ → ℕ = λ entry. entry_number counts numbers side point entry 3 in
    hour_lines capacity (many_rows counts numbers side point) shipper entitlement (λ entry. firm_mdq counts numbers (shipper entry))

-- tag 3: side, point, capacity
abbrev pub point_lines : Counts → (ℕ → ℕ) → ℕ → List ℕ
point_lines counts numbers row =
    let side = number_at counts numbers Point row 0 in
    let point = number_at counts numbers Point row 1 in
    let capacity = number_at counts numbers Point row 2 in
    point_line side point capacity ++ entry_lines counts numbers side point capacity

abbrev pub points_text : Day → (ℕ → ℕ) → List ℕ
points_text day numbers =
    day_line day.head.day ++ joined (count day.counts Point) (point_lines day.counts numbers)

-- ---- of a file
abbrev pub points_listing : List ℕ → List ℕ
points_listing file = points_text (day_of file) (col (tables file).numbers)
