-- Every row that the search has passed is the point's.
use mathlib.Core.Path.{◌≡◌}
use mathlib.Core.Bool.{false, not}
use Prim.Native.Nat.{ℕ, ◌+◌, ◌*◌, ◌<◌}
use lib.Dec.{eqb}
use Rattle.columns.specs.Column.{col}
use Rattle.pointentries.proofs.many_entries.Given as goal

abbrev pub invariant-loop-more : goal.invariant-loop-more
invariant-loop-more l = (k : ℕ) → k < l.more → not (eqb (col l.numbers ((l.from + k) * 4 + 1)) l.point) ≡ false
