-- A sound day's row is within its bounds, so that it can be spelled.
use mathlib.Core.Path.{sym, ◌∙◌}
use mathlib.Core.List.{List}
use Prim.Native.Nat.{ℕ, ◌+◌, ◌<◌}
use native.Mathlib.Nat.{lt_of_le_of_lt}
use Rattle.columns.specs.Column.{col}
use Rattle.columns.proofs.Lists.{length-listed, col-listed}
use Rattle.bigendian.specs.Row.{Fit}
use Rattle.dayformat.specs.declared.day.Day.{Day}
use Rattle.dayformat.specs.declared.form.Tag.{Tag}
use Rattle.dayformat.specs.Format.{body, column_in, widths, form}
use Rattle.dayformat.specs.Layout.{count, row_start}
use Rattle.dayformat.specs.DayBytes.{row_from}
use Rattle.dayformat.specs.Private.{HasTable}
use Rattle.dayformat.proofs.Small.{spelled}
use Rattle.dayrows.specs.declared.Source.TheVariants.{File}
use Rattle.dayrows.specs.declared.Test.TheVariants.{Bounds}
use Rattle.dayrows.specs.Private.{Sound}
use Rattle.dayrows.proofs.Within.{passes-bounded, within-bounds}

module _ (day : Day) (numbers : List ℕ) (S : Sound day numbers) where
  pub row_fits : (tag : Tag) → HasTable tag → (i : ℕ) → i < count day.counts tag → Fit (widths tag)
      (row_from (col numbers) tag (row_start day.counts tag i))
  row_fits tag t i l =
      record {
        as_many = length-listed _ _ ∙ sym (length-listed _ _);
        below = λ place k.
            let inside : place < (form tag).columns = rw length-listed at k in
            let bound =
            (within-bounds (column_in (body tag) place) _
            ((passes-bounded File day.counts (col numbers) tag i (S.passes tag t Bounds i l)).1 place inside)).1
            in rw (
              col-listed (form tag).columns (λ place. col numbers (row_start day.counts tag i + place)) place inside,
              col-listed (form tag).columns (λ place. (column_in (body tag) place).width) place inside,
            )
            (lt_of_le_of_lt bound (spelled tag place));
      }
