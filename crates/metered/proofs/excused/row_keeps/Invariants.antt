-- While the flag stands, no hour that was looked at has more excused than was metered.
use mathlib.Core.Path.{◌≡◌}
use mathlib.Core.Bool.{true}
use lib.Dec.{ltb}
use Rattle.columns.specs.Column.{col}
use Rattle.columns.proofs.Firsts.{Searched}
use Rattle.metered.specs.Hours.{bare_hours}
use Rattle.metered.proofs.excused.row_keeps.Given as goal

abbrev pub invariant-loop-hour : goal.invariant-loop-hour
invariant-loop-hour l =
    l.kept ≡ true → Searched (λ i. ltb (col (bare_hours l.metered) i) (col (bare_hours l.excused) i)) 24 l.hour
