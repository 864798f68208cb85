-- A row past its table is refused, so a shipper without a tag 9 field has zeros for its excused hours.
use Rattle.std.specs.Prelude.{Ok, Err}
use mathlib.Core.Path.{◌≡◌, refl, sym}
use mathlib.Core.Bool.{false}
use mathlib.Core.List.{List}
use Prim.Native.Nat.{ℕ, ◌≤◌, ◌<◌}
use native.Mathlib.Nat.{le_of_eq}
use native.Mathlib.Omega.{arith}
use lib.Dec.{eqb}
use Rattle.columns.specs.Column.{col}
use Rattle.columns.proofs.Firsts.{first-none}
use Rattle.units.specs.Refusals.{accepted_or, Check}
use Rattle.metered.specs.Hours.{no_hours, no_sides}
use Rattle.dayformat.specs.declared.form.Tag.{Tag}
use Rattle.dayformat.specs.declared.form.Tag.TheVariants.{Excused}
use Rattle.dayformat.specs.declared.layout.Counts.{Counts}
use Rattle.dayformat.specs.Layout.{count}
use Rattle.dayvalues.specs.Row.{number_at, row_check}
use Rattle.dayvalues.proofs.Accepting.{row_inside}
use Rattle.daymeters.specs.Excused.{excused_row, excused_yesterday, excused_hours}

module _ (counts : Counts) (numbers : List ℕ) where
  zeros-past : {X : Type 0} (tag : Tag) (row : ℕ) (figures zeros : X) → count counts tag ≤ row
      → accepted_or (row_check counts numbers tag row) figures zeros ≡ zeros
  zeros-past tag row figures zeros past = by (row_check counts numbers tag row) refl
    where
      by : (found : Check) → row_check counts numbers tag row ≡ found → accepted_or found figures zeros ≡ zeros
      by (Ok _) e = absurd (omega (arith, past, row_inside counts numbers tag row e))
      by (Err refusal) e = refl

  pub yesterday-past : (row : ℕ) → count counts Excused ≤ row → excused_yesterday counts numbers row ≡ no_hours 11
  yesterday-past row past = zeros-past Excused row _ _ past

  pub hours-past : (row : ℕ) → count counts Excused ≤ row → excused_hours counts numbers row ≡ no_sides
  hours-past row past = zeros-past Excused row _ _ past

  -- a shipper that no row of the table names
  module _ (shipper : ℕ)
      (unnamed : (row : ℕ) → row < count counts Excused → eqb (number_at counts (col numbers) Excused row 0) shipper ≡ false) where
    row-past : count counts Excused ≤ excused_row counts (col numbers) shipper
    row-past = le_of_eq (sym (first-none _ (count counts Excused) unnamed))

    pub no_field-yesterday : excused_yesterday counts numbers (excused_row counts (col numbers) shipper) ≡ no_hours 11
    no_field-yesterday = yesterday-past _ row-past

    pub no_field-hours : excused_hours counts numbers (excused_row counts (col numbers) shipper) ≡ no_sides
    no_field-hours = hours-past _ row-past
