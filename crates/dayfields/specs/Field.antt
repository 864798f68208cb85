-- 01, "Refusal numbers": a field taken.
use Rattle.std.specs.Prelude.{◌≡◌, cond, List, ℕ, is_ok}
use Rattle.columns.specs.Column.{col}
use Rattle.dayformat.specs.declared.form.Tag.{Tag}
use Rattle.dayformat.specs.declared.layout.Counts.{Counts}
use Rattle.dayrows.specs.declared.Source.{Source}
use Rattle.dayrows.specs.Fault.{Found}
use Rattle.dayrows.specs.Test.{fault}
use Rattle.dayrows.specs.Whole.{broken, with_row}

-- within a field 1 (header), 2, 1 (body), then 3, 5, 4 where its row then stands
pub record Taken (source : Source) (counts : Counts) (file : List ℕ) (tag : Tag) (at row : ℕ) (lent after : List ℕ) (found : Found) : Type 0
  where
    pub answers :
        found
        ≡ cond (is_ok (broken file tag at))
        (fault source counts (col (with_row counts file tag at row lent)) tag row)
        (broken file tag at)
    pub lays : after ≡ cond (is_ok (broken file tag at)) (with_row counts file tag at row lent) lent
