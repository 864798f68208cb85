-- The tables before a place pass the test.
use Rattle.std.specs.Prelude.{◌≡◌, Ok}
use Rattle.columns.specs.Column.{col}
use Rattle.units.specs.Refusals.{clear}
use Rattle.units.specs.Each.{each}
use Rattle.dayformat.specs.Format.{tag_at}
use Rattle.dayformat.specs.Layout.{count}
use Rattle.dayrows.specs.Test.{first_failing}
use Rattle.daywriter.proofs.examine.examine_tables.Given as goal

abbrev pub invariant-loop-place : goal.invariant-loop-place
invariant-loop-place l =
    each l.place
    (λ place.
    clear (count l.tables.counts (tag_at place)) (first_failing l.test l.tables.counts (col l.tables.numbers.now) (tag_at place))
    l.number)
    ≡ Ok tt
