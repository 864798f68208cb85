-- A sound day: what every day that is read keeps, and what is asked of a day before it is listed.
use Rattle.std.specs.Prelude.{◌≡◌, true, List, ℕ, ◌≤◌, ◌<◌, length}
use Rattle.columns.specs.Column.{col}
use Rattle.units.specs.Bound.{most_gigajoules}
use Rattle.dayformat.specs.declared.day.Day.{Day}
use Rattle.dayformat.specs.declared.form.Tag.{Tag}
use Rattle.dayformat.specs.declared.layout.Counts.{Counts}
use Rattle.dayformat.specs.Layout.{count, numbers_in}
use Rattle.dayformat.specs.Private.{HasTable, Few}
use Rattle.dayrows.specs.declared.Source.TheVariants.{File}
use Rattle.dayrows.specs.declared.Test.{Test}
use Rattle.dayrows.specs.Test.{passes}

-- a table's rows all pass a test
abbrev pub Passed : Test → Counts → (ℕ → ℕ) → Tag → Type 0
Passed test counts numbers tag = (row : ℕ) → row < count counts tag → passes test File counts numbers tag row ≡ true

-- 9: as many numbers as the counts say; 3, 5, 4: the capacities and the counts, then every row of every table
pub record Sound (day : Day) (numbers : List ℕ) : Type 0 where
  pub long : length numbers ≡ numbers_in day.counts
  pub free_flow : day.head.free_flow.0 ≤ most_gigajoules
  pub compressor : day.head.compressor.0 ≤ most_gigajoules
  pub few : Few day.counts
  pub passes : (tag : Tag) → HasTable tag → (test : Test) → Passed test day.counts (col numbers) tag
