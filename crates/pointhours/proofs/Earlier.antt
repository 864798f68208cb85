-- The search for a shipper's firm MDQ looks at the shippers' rows, and where it finds none at the number behind the last of them.
use mathlib.Core.Path.{◌≡◌, refl, ap, ◌∙◌}
use Prim.Native.Nat.{ℕ, ◌+◌, ◌≤◌, ◌<◌}
use native.Mathlib.Omega.{arith}
use lib.Dec.{eqb}
use Rattle.columns.proofs.Firsts.{first_le}
use Rattle.dayformat.specs.declared.form.Tag.TheVariants.{Shipper}
use Rattle.dayformat.specs.declared.layout.Counts.{Counts}
use Rattle.dayformat.specs.Format.{table_place}
use Rattle.dayformat.specs.Layout.{count, numbers_before, row_start}
use Rattle.dayvalues.specs.declared.column.ShipperColumn.TheVariants.{FirmMdq}
use Rattle.dayvalues.specs.Row.{number_at}
use Rattle.dayvalues.specs.Column.{place_of, column}
use Rattle.dayvalues.proofs.Earlier.{Alike, number-same-below, row_beginning-same}
use Rattle.pointhours.specs.HourText.{shipper_row, firm_mdq}

pub firm_mdq-same : {many : ℕ} {c d : Counts} {f g : ℕ → ℕ} → Alike many c d f g → table_place Shipper < many
    → row_start c Shipper (count c Shipper) + place_of FirmMdq < numbers_before c many
    → (shipper : ℕ) → firm_mdq c f shipper ≡ firm_mdq d g shipper
firm_mdq-same {c = c} {d = d} {f = f} {g = g} A early behind shipper =
    let row = shipper_row c f shipper in
    let inside : row ≤ count c Shipper = first_le (λ row. eqb (number_at c f Shipper row 0) shipper) (count c Shipper) in
    number-same-below A Shipper refl early row (place_of FirmMdq) (omega (arith, behind, inside))
    ∙ ap (column d g (place_of FirmMdq)) (row_beginning-same A Shipper refl early shipper)
