-- A row's point: its side, its number and its capacity.
use Rattle.std.specs.Prelude.{List, ℕ, Result, Ok, Err}
use Rattle.columns.specs.Column.{col}
use Rattle.units.specs.Verdict.{Verdict, accepting, refusing}
use Rattle.dayformat.specs.declared.form.Tag.TheVariants as Tag
use Rattle.dayformat.specs.declared.layout.Counts.{Counts}
use Rattle.dayvalues.specs.declared.points.Point.{Point}
use Rattle.dayvalues.specs.Row.{number_at, row_check}
use Rattle.units.specs.Refusals.{Check}
use Rattle.units.specs.declared.refusal.Refusal.{Refusal}

-- tag 3: side, point, capacity
abbrev pub point_of : Counts → (ℕ → ℕ) → ℕ → Point
point_of counts numbers row =
    record {
      side = number_at counts numbers Tag.Point row 0;
      point = number_at counts numbers Tag.Point row 1;
      capacity = record { 0 = number_at counts numbers Tag.Point row 2 };
    }

abbrev pub point_where : Check → Point → Result Point Refusal
point_where (Ok _) point = Ok point
point_where (Err x) point = Err x

abbrev pub point_answer : Counts → List ℕ → ℕ → Result Point Refusal
point_answer counts numbers row = point_where (row_check counts numbers Tag.Point row) (point_of counts (col numbers) row)

-- 01's number, place and figures of each case
abbrev pub point_verdict : Result Point Refusal → Verdict Point
point_verdict (Ok point) = accepting point
point_verdict (Err x) = refusing x (record { side = 0; point = 0; capacity = record { 0 = 0 } })
