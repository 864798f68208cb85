-- 01, "Figures to check against": the listing of a day's shares. DAY number, FIRM total, LEFT; then shipper, firm, auction, lower tier.
use Rattle.std.specs.Prelude.{List, [], ◌∷◌, ◌++◌, ℕ}
use Rattle.columns.specs.Column.{col, joined}
use Rattle.text.specs.Text.{decimal}
use Rattle.lines.specs.Line.{line, decimals, day_word}
use Rattle.dayformat.specs.declared.day.Day.{Day}
use Rattle.dayformat.specs.declared.form.Tag.TheVariants.{Shipper}
use Rattle.dayformat.specs.Layout.{count}
use Rattle.dayshares.specs.Given.{firm_given, firm_total, auction_given, lower_tier_given, left}
use Rattle.dayvalues.specs.Shippers.{shipper_of}
use Rattle.numbershares.specs.DayTable.{table_of}
use Rattle.dayfile.specs.File.{tables}
use Rattle.dayfile.specs.Answer.{day_of}

-- FIRM, LEFT
abbrev pub firm_word : List ℕ
firm_word = 70 ∷ 73 ∷ 82 ∷ 77 ∷ []

abbrev pub left_word : List ℕ
left_word = 76 ∷ 69 ∷ 70 ∷ 84 ∷ []

abbrev pub head_line : ℕ → ℕ → ℕ → List ℕ
head_line day firm left = line (day_word ∷ decimal day ∷ firm_word ∷ decimal firm ∷ left_word ∷ decimal left ∷ [])

abbrev pub shipper_line : ℕ → ℕ → ℕ → ℕ → List ℕ
shipper_line shipper firm auction lower_tier = line (decimals (shipper ∷ firm ∷ auction ∷ lower_tier ∷ []))

-- a line for each of so many rows, out of columns
abbrev pub shipper_lines : ℕ → (ℕ → ℕ) → (ℕ → ℕ) → (ℕ → ℕ) → (ℕ → ℕ) → List ℕ
shipper_lines many shipper firm auction lower_tier =
    joined many (λ row. shipper_line (shipper row) (firm row) (auction row) (lower_tier row))

abbrev pub shares_text : Day → (ℕ → ℕ) → List ℕ
shares_text day numbers =
    let T = table_of day numbers in
    head_line day.head.day (firm_total T) (left T)
    ++ shipper_lines (count day.counts Shipper) (shipper_of day.counts numbers) (firm_given T) (auction_given T) (lower_tier_given T)

-- ---- of a file
abbrev pub shares_listing : List ℕ → List ℕ
shares_listing file = shares_text (day_of file) (col (tables file).numbers)
