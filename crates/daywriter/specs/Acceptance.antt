-- 01, "Refusal numbers": the tests of a day, number by number over all tables.
use Rattle.std.specs.Prelude.{List, ℕ, leb, eqb, length, Ok}
use Rattle.columns.specs.Column.{col}
use Rattle.units.specs.Bound.{most_gigajoules}
use Rattle.units.specs.Refusals.{◌then◌, keep, clear, Check}
use Rattle.units.specs.Each.{each}
use Rattle.dayformat.specs.declared.day.Day.{Day}
use Rattle.dayformat.specs.declared.layout.Counts.{Counts}
use Rattle.dayformat.specs.Format.{many_tables, tag_at}
use Rattle.dayformat.specs.Layout.{count, numbers_in, file_size}
use Rattle.dayformat.specs.Acceptance.{counts_check}
use Rattle.dayrows.specs.declared.Test.{Test}
use Rattle.dayrows.specs.Test.{first_failing}

-- 3: the head, then the counts
unfoldable pub singles_check : Day → Check
singles_check day =
    Ok tt
    then keep (leb day.head.free_flow.0 most_gigajoules) 3
    then keep (leb day.head.compressor.0 most_gigajoules) 3
    then counts_check day.counts

-- one test over the tables in file order: refused by its number at the lowest row
unfoldable pub tables_check : Test → ℕ → Counts → (ℕ → ℕ) → Check
tables_check test number counts numbers =
    each many_tables (λ place. clear (count counts (tag_at place)) (first_failing test counts numbers (tag_at place)) number)

-- number by number over all tables
unfoldable pub rows_check : Counts → (ℕ → ℕ) → Check
rows_check counts numbers =
    Ok tt
    then tables_check Test.Bounds 3 counts numbers
    then tables_check Test.Key 5 counts numbers
    then tables_check Test.Mdq 4 counts numbers

-- what the writer accepts, whatever room it is lent
unfoldable pub sound : Day → List ℕ → Check
sound day numbers =
    Ok tt
    then keep (eqb (length numbers) (numbers_in day.counts)) 9
    then singles_check day
    then rows_check day.counts (col numbers)

unfoldable pub written_check : Day → List ℕ → ℕ → Check
written_check day numbers room = sound day numbers then keep (leb (file_size day.counts) room) 7
