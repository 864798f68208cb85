-- What a day's points are read from: a day that the writer accepts, as every day that is read, and its tag 4 fields parted by side.
use Rattle.std.specs.Prelude.{◌≡◌, List, ℕ}
use Rattle.columns.specs.Column.{col}
use Rattle.dayformat.specs.declared.day.Day.{Day}
use Rattle.dayformat.specs.declared.form.Tag.TheVariants.{Entry}
use Rattle.dayformat.specs.DayBytes.{fields}
use Rattle.dayrows.specs.Private.{Sound}
use Rattle.entrylists.specs.SideLists.{receipt_list, delivery_list}

pub record Readable (day : Day) (numbers receipt delivery : List ℕ) : Type 0 where
  pub sound : Sound day numbers
  pub receipt_is : receipt ≡ receipt_list (fields day.counts (col numbers) Entry)
  pub delivery_is : delivery ≡ delivery_list (fields day.counts (col numbers) Entry)
