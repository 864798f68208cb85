-- 01, "System use gas"; cl. 4.2: shippers with schedules share the net gas, SUG − FSSUG, beside the Foundation Shipper.
use Rattle.std.specs.Prelude.{Bool, cond, not, ◌&&◌, List, ℕ, leb, ltb, eqb, length}
use Rattle.columns.specs.Column.{col}
use Rattle.columns.specs.Sum.{sum}
use Rattle.sharing.specs.Part.{part}

-- the Foundation Shipper's place where no row is its own
abbrev pub none : ℕ
none = 255

-- its place is beyond the rows and not that for none
unfoldable pub beyond : ℕ → ℕ → Bool
beyond foundation rows = leb rows foundation && not (eqb foundation none)

-- a row's schedule; the Foundation Shipper's is out of the total, so that its share is zero
unfoldable pub weights : ℕ → List ℕ → ℕ → ℕ
weights foundation schedules i = cond (eqb i foundation) 0 (col schedules i)

abbrev pub total : ℕ → List ℕ → ℕ
total foundation schedules = sum (length schedules) (weights foundation schedules)

-- net gas above zero with schedule total zero
unfoldable pub unscheduled : ℕ → ℕ → Bool
unscheduled net total = ltb 0 net && eqb total 0

-- schedule / total × net gas, rounded down to an MJ
abbrev pub gas_shares : ℕ → List ℕ → ℕ → ℕ → ℕ
gas_shares foundation schedules net i = part (length schedules) (weights foundation schedules) net i
