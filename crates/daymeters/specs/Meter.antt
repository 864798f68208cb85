-- The meter table: where a row's numbers stand, and its tests.
use Rattle.std.specs.Prelude.{List, ℕ, ◌+◌}
use Rattle.dayformat.specs.declared.form.Tag.TheVariants.{Meter}
use Rattle.dayformat.specs.declared.layout.Counts.{Counts}
use Rattle.dayvalues.specs.Row.{number_at, row_check}
use Rattle.units.specs.Refusals.{Check}

-- refused: 9; 3 a count, a row beyond its count, one of its numbers
abbrev pub meter_check : Counts → List ℕ → ℕ → Check
meter_check counts numbers row = row_check counts numbers Meter row

abbrev pub meter_at : Counts → (ℕ → ℕ) → ℕ → ℕ → ℕ
meter_at counts numbers row place = number_at counts numbers Meter row place

-- tag 5: shipper, P, M, the hours, the single figures of both sides
abbrev pub hours_at : ℕ
hours_at = 3

abbrev pub sides_at : ℕ
sides_at = hours_at + (11 + 24 + 24)
