-- The hours of a row, one after another: yesterday's 11 delivered, today's 24 delivered and 24 received. A meter's, and those excused.
use Rattle.std.specs.Prelude.{◌≡◌, List, [], ◌∷◌, map, ℕ, ◌+◌, leb, length}
use Rattle.std.proofs.lemmas.List.Edits.{sets}
use Rattle.columns.specs.Column.{col, listed}
use Rattle.units.specs.declared.Megajoules.{Megajoules}
use Rattle.units.specs.Refusals.{◌then◌, keep, accepted_or, Check}
use Rattle.metered.specs.Hours.{no_hours, no_sides}
use Rattle.dayformat.specs.declared.form.Tag.{Tag}
use Rattle.dayformat.specs.declared.form.Tag.TheVariants.{Meter}
use Rattle.dayformat.specs.declared.layout.Counts.{Counts}
use Rattle.dayvalues.specs.Row.{number_at, row_check}
use Rattle.daymeters.specs.Meter.{meter_check, hours_at}

-- so many hours from a place of a table's row on
abbrev pub hours_from : Counts → (ℕ → ℕ) → Tag → ℕ → ℕ → ℕ → List ℕ
hours_from counts numbers tag row at many = listed many (λ hour. number_at counts numbers tag row (at + hour))

abbrev pub megajoules : List ℕ → List Megajoules
megajoules figures = map (λ figure. record { 0 = figure }) figures

-- yesterday's, of a row whose hours begin at a place; all zero where its tests refuse
abbrev pub yesterday_of : Counts → List ℕ → Tag → ℕ → ℕ → List Megajoules
yesterday_of counts numbers tag row at =
    accepted_or (row_check counts numbers tag row) (megajoules (hours_from counts (col numbers) tag row at 11)) (no_hours 11)

-- today's: two rows of 24, delivered first
abbrev pub today_of : Counts → List ℕ → Tag → ℕ → ℕ → List (List Megajoules)
today_of counts numbers tag row at =
    accepted_or (row_check counts numbers tag row)
    (megajoules (hours_from counts (col numbers) tag row (at + 11) 24)
    ∷ megajoules (hours_from counts (col numbers) tag row (at + 11 + 24) 24)
    ∷ [])
    no_sides

-- ---- a meter's
abbrev pub meter_yesterday : Counts → List ℕ → ℕ → List Megajoules
meter_yesterday counts numbers row = yesterday_of counts numbers Meter row hours_at

abbrev pub meter_hours : Counts → List ℕ → ℕ → List (List Megajoules)
meter_hours counts numbers row = today_of counts numbers Meter row hours_at

-- 7: the lent list has no room for 35 hours
unfoldable pub delivered_check : Counts → List ℕ → ℕ → ℕ → Check
delivered_check counts numbers row room = meter_check counts numbers row then keep (leb 35 room) 7

-- the lent list with yesterday's 11 and today's 24 delivered hours at its front: a row has them one after another
abbrev pub with_delivered : Counts → (ℕ → ℕ) → ℕ → List ℕ → List ℕ
with_delivered counts numbers row lent = sets lent 0 (hours_from counts numbers Meter row hours_at 35)

-- the statement of `meter_delivered`: its answer, and the lent list before and after
pub record Delivered (counts : Counts) (numbers : List ℕ) (row : ℕ) (lent : List ℕ) (found : Check) (after : List ℕ) : Type 0 where
  pub answers : found ≡ delivered_check counts numbers row (length lent)
  pub leaves : after ≡ accepted_or (delivered_check counts numbers row (length lent)) (with_delivered counts (col numbers) row lent) lent
