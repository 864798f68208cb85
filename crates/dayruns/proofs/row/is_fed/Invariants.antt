-- Some schedule from the loop's place on is without its MDQ exactly where some is at all.
use mathlib.Core.Path.{◌≡◌}
use lib.ListN.{drop}
use Rattle.columns.specs.Column.{col}
use Rattle.dayrows.specs.Test.{some_idle}
use Rattle.dayruns.proofs.row.is_fed.Given as goal

abbrev pub invariant-loop-pair : goal.invariant-loop-pair
invariant-loop-pair l =
    some_idle (col l.numbers) l.at (drop l.pair-index l.pair-items) ≡ some_idle (col l.numbers) l.at l.pair-items
