-- A row's shipper.
use Rattle.std.specs.Prelude.{List, ℕ, Result, Ok, Err}
use Rattle.columns.specs.Column.{col}
use Rattle.units.specs.Verdict.{Verdict, accepting, refusing}
use Rattle.dayformat.specs.declared.form.Tag.TheVariants.{Shipper}
use Rattle.dayformat.specs.declared.layout.Counts.{Counts}
use Rattle.dayvalues.specs.Row.{number_at, row_check}
use Rattle.units.specs.Refusals.{Check}
use Rattle.units.specs.declared.refusal.Refusal.{Refusal}

-- tag 2 begins with the shipper
abbrev pub shipper_of : Counts → (ℕ → ℕ) → ℕ → ℕ
shipper_of counts numbers row = number_at counts numbers Shipper row 0

abbrev pub shipper_where : Check → ℕ → Result ℕ Refusal
shipper_where (Ok _) shipper = Ok shipper
shipper_where (Err x) shipper = Err x

abbrev pub shipper_answer : Counts → List ℕ → ℕ → Result ℕ Refusal
shipper_answer counts numbers row = shipper_where (row_check counts numbers Shipper row) (shipper_of counts (col numbers) row)

-- 01's number, place and figure of each case
abbrev pub shipper_verdict : Result ℕ Refusal → Verdict ℕ
shipper_verdict (Ok shipper) = accepting shipper
shipper_verdict (Err x) = refusing x 0
