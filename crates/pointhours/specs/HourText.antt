-- The lines of a point's entries: shipper and share; or the point's own refusal in their place.
use Rattle.std.specs.Prelude.{List, [], ◌∷◌, ℕ, length, Ok, Err}
use Rattle.columns.specs.Column.{listed, joined}
use Rattle.pointshares.specs.Share.{hour_shares}
use Rattle.pointshares.specs.Answer.{hour_check}
use Rattle.lines.specs.Line.{line, decimals, refused}
use Rattle.dayformat.specs.declared.form.Tag.TheVariants.{Shipper}
use Rattle.dayformat.specs.declared.layout.Counts.{Counts}
use Rattle.dayvalues.specs.declared.column.ShipperColumn.TheVariants.{FirmMdq}
use Rattle.dayvalues.specs.Row.{row_beginning}
use Rattle.dayvalues.specs.Column.{place_of, column}
use Rattle.units.specs.Refusals.{Check}

-- a line for each of so many entries, shipper and share; or the point's own refusal in their place
abbrev pub share_lines : Check → ℕ → (ℕ → ℕ) → (ℕ → ℕ) → List ℕ
share_lines (Ok _) many shipper share = joined many (λ entry. line (decimals (shipper entry ∷ share entry ∷ [])))
share_lines (Err refusal) many shipper share = refused refusal

-- an hour at the point, shared among so many entries: their shippers, reserved entitlements and firm MDQs
abbrev pub hour_lines : ℕ → ℕ → (ℕ → ℕ) → (ℕ → ℕ) → (ℕ → ℕ) → List ℕ
hour_lines capacity many shipper entitlement mdq =
    let entitlements = listed many entitlement in
    let mdqs = listed many mdq in
    share_lines (hour_check capacity entitlements mdqs (length entitlements)) many shipper (hour_shares entitlements mdqs capacity)

-- the firm MDQ of a shipper's row
abbrev pub shipper_row : Counts → (ℕ → ℕ) → ℕ → ℕ
shipper_row counts numbers shipper = row_beginning counts numbers Shipper shipper

abbrev pub firm_mdq : Counts → (ℕ → ℕ) → ℕ → ℕ
firm_mdq counts numbers shipper = column counts numbers (place_of FirmMdq) (shipper_row counts numbers shipper)
