-- While the flag stands, no hour that was looked at has more excused than was metered.
use mathlib.Core.Path.{◌≡◌}
use mathlib.Core.Bool.{true}
use lib.Dec.{ltb}
use Rattle.columns.specs.Column.{col}
use Rattle.columns.proofs.Firsts.{Searched}
use Rattle.metered.specs.Excused.{both_have}
use Rattle.metered.proofs.excused.excused_keep.Given as goal

abbrev pub invariant-loop-hour : goal.invariant-loop-hour
invariant-loop-hour l =
    (l.kept ≡ true → Searched (λ i. ltb (col l.metered i) (col l.excused i)) (both_have l.metered l.excused) l.hour)
    × (l.hour-end ≡ both_have l.metered l.excused)
