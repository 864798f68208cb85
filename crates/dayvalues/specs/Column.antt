-- A column of gigajoules of the shipper table: what `shipper_column` answers, and what it leaves in the lent list.
use Rattle.std.specs.Prelude.{◌≡◌, List, ℕ, leb, eqb, length, Result, Ok, Err}
use Rattle.std.proofs.lemmas.List.Edits.{sets}
use Rattle.columns.specs.Column.{col, listed}
use Rattle.columns.specs.First.{first}
use Rattle.units.specs.Refusals.{◌then◌, keep, clear, accepted_or, Check}
use Rattle.units.specs.Verdict.{Verdict, accepting, refusing}
use Rattle.dayformat.specs.declared.form.Tag.TheVariants.{Shipper}
use Rattle.dayformat.specs.declared.layout.Counts.{Counts}
use Rattle.dayformat.specs.Layout.{count, numbers_in}
use Rattle.dayformat.specs.Acceptance.{counts_check}
use Rattle.dayvalues.specs.declared.column.ShipperColumn.{ShipperColumn}
use Rattle.dayvalues.specs.declared.column.ShipperColumn.TheVariants.{FirmMdq, AuctionMdq, FirmSchedule, AuctionSchedule, LowerTierSchedule}
use Rattle.dayvalues.specs.Row.{number_at, beyond}
use Rattle.units.specs.declared.refusal.Refusal.{Refusal}

-- tag 2: shipper, firm MDQ, auction MDQ, firm, auction and lower tier schedules
abbrev pub place_of : ShipperColumn → ℕ
place_of FirmMdq = 1
place_of AuctionMdq = 2
place_of FirmSchedule = 3
place_of AuctionSchedule = 4
place_of LowerTierSchedule = 5

-- each row's number at a place
abbrev pub column : Counts → (ℕ → ℕ) → ℕ → ℕ → ℕ
column counts numbers place row = number_at counts numbers Shipper row place

-- the lowest row whose number there is beyond its bounds, or the number of rows
abbrev pub first_beyond : Counts → (ℕ → ℕ) → ℕ → ℕ
first_beyond counts numbers place = first (count counts Shipper) (λ row. beyond counts numbers Shipper row place)

-- refused: 9 not as many numbers as the counts say; 3 a count, a number; 7 the lent list
unfoldable pub column_check : Counts → List ℕ → ℕ → ℕ → Check
column_check counts numbers place room =
    Ok tt
    then keep (eqb (length numbers) (numbers_in counts)) 9
    then counts_check counts
    then clear (count counts Shipper) (first_beyond counts (col numbers) place) 3
    then keep (leb (count counts Shipper) room) 7

abbrev pub column_answer : Check → ℕ → Result ℕ Refusal
column_answer (Ok _) rows = Ok rows
column_answer (Err x) rows = Err x

-- 01's number, place and figure of each case
abbrev pub column_verdict : Result ℕ Refusal → Verdict ℕ
column_verdict (Ok many) = accepting many
column_verdict (Err x) = refusing x 0

-- the lent list with a column at its front
abbrev pub with_column : Counts → (ℕ → ℕ) → ℕ → List ℕ → List ℕ
with_column counts numbers place lent = sets lent 0 (listed (count counts Shipper) (column counts numbers place))

-- the statement of `shipper_column`: its answer, and the lent list before and after
pub record ColumnAnswered (counts : Counts) (numbers : List ℕ) (which : ShipperColumn) (lent : List ℕ) (rows : Result ℕ Refusal)
    (after : List ℕ) : Type 0 where
  pub answers : rows ≡ column_answer (column_check counts numbers (place_of which) (length lent)) (count counts Shipper)
  pub leaves :
      after
      ≡ accepted_or (column_check counts numbers (place_of which) (length lent))
      (with_column counts (col numbers) (place_of which) lent) lent
