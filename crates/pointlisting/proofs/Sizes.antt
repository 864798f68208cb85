-- Room for every listing of points: at most 32 points, each with its line and those of its hour.
use Rattle.std.specs.Prelude.{Ok}
use mathlib.Core.Path.{◌≡◌, refl}
use mathlib.Core.List.{List}
use Prim.Native.Nat.{ℕ, ◌+◌, ◌≤◌, ◌<◌}
use native.Mathlib.Nat.{le_refl}
use native.Mathlib.Omega.{arith}
use lib.ListN.{length, length-append}
use Rattle.columns.specs.Column.{col, joined}
use Rattle.units.specs.Bound.{most_hour}
use Rattle.lines.proofs.Sizes.{line-none, line-within, figure-within}
use Rattle.lines.proofs.Texts.{texts_most}
use Rattle.dayformat.specs.declared.day.Day.{Day}
use Rattle.dayformat.specs.declared.form.Tag.TheVariants.{Point, Entry}
use Rattle.dayformat.specs.Format.{column_in}
use Rattle.dayformat.specs.Layout.{count}
use Rattle.dayrows.specs.Private.{Sound}
use Rattle.dayvalues.specs.Row.{number_at}
use Rattle.dayvalues.proofs.Sounds.{sound-number}
use Rattle.pointhours.proofs.Sizes.{hour-most}
use Rattle.dayruns.specs.Walk.{file_check}
use Rattle.dayruns.proofs.Ending.{faultless}
use Rattle.dayfile.specs.File.{tables, walked}
use Rattle.dayfile.specs.Answer.{day_of}
use Rattle.dayfile.proofs.FileAgain.{day-number, read-sound}
use Rattle.entrylists.specs.PointRows.{first_row, many_rows, entry_number}
use Rattle.entrylists.proofs.EntryRows.{rows_inside}
use Rattle.pointlisting.specs.PointsText.{point_word, day_line, point_line, entry_lines, point_lines, points_text, points_listing}

-- ten digits for the day
day_line-most : (day : ℕ) → day ≤ 4_294_967_295 → length (day_line day) ≤ 16
day_line-most day d = line-within _ _ (le_refl 3) (figure-within 9 day _ (omega arith) line-none)

-- one for a side, five for a point, nine for its capacity
point_line-most : (side point capacity : ℕ) → side ≤ 1 → point ≤ 65_535 → capacity ≤ most_hour
    → length (point_line side point capacity) ≤ 25
point_line-most side point capacity s p c =
    line-within point_word _ (le_refl 5)
    (figure-within 0 side _ (omega arith) (figure-within 4 point _ (omega arith) (figure-within 8 capacity _ (omega arith) line-none)))

module _ (day : Day) (numbers : List ℕ) (S : Sound day numbers) where
  -- an entry of a point is a row of the table
  entry-shipper : (side point entry : ℕ) → entry < many_rows day.counts (col numbers) side point
      → entry_number day.counts (col numbers) side point entry 2 ≤ 65_535
  unfolding column_in
  entry-shipper side point entry l =
      sound-number day numbers S Entry refl (first_row day.counts (col numbers) side point + entry)
      (omega (arith, l, rows_inside day.counts (col numbers) side point)) 2 (omega arith)

  entries-most : (side point capacity : ℕ) → length (entry_lines day.counts (col numbers) side point capacity) ≤ 1_088
  entries-most side point capacity = hour-most capacity _ _ _ _ (entry-shipper side point)

  point-most : (row : ℕ) → row < count day.counts Point → length (point_lines day.counts (col numbers) row) ≤ 1_113
  unfolding column_in
  point-most row l =
      let side = number_at day.counts (col numbers) Point row 0 in
      let point = number_at day.counts (col numbers) Point row 1 in
      let capacity = number_at day.counts (col numbers) Point row 2 in
      let within = sound-number day numbers S Point refl row l in
      omega (
        arith,
        length-append (point_line side point capacity) (entry_lines day.counts (col numbers) side point capacity),
        point_line-most side point capacity (within 0 (omega arith)) (within 1 (omega arith)) (within 2 (omega arith)),
        entries-most side point capacity,
      )

  day-most : day.head.day ≤ 4_294_967_295 → length (points_text day (col numbers)) ≤ 65_536
  day-most d =
      omega (
        arith,
        length-append (day_line day.head.day) (joined (count day.counts Point) (point_lines day.counts (col numbers))),
        day_line-most day.head.day d,
        texts_most (point_lines day.counts (col numbers)) 1_113 (count day.counts Point) point-most,
        S.few Point,
      )

pub text-most : (file : List ℕ) → file_check (walked file) ≡ Ok tt → length (points_listing file) ≤ 65_536
text-most file accepted =
    let none = faultless (walked file) accepted in
    day-most (day_of file) (tables file).numbers (read-sound file none) (day-number file none)
