-- No row that the search has passed is the point's.
use mathlib.Core.Path.{◌≡◌}
use mathlib.Core.Bool.{false}
use Prim.Native.Nat.{ℕ, ◌+◌, ◌*◌, ◌<◌}
use lib.Dec.{eqb}
use Rattle.columns.specs.Column.{col}
use Rattle.pointentries.proofs.first_entry.Given as goal

abbrev pub invariant-loop-row : goal.invariant-loop-row
invariant-loop-row l = (k : ℕ) → k < l.row → eqb (col l.numbers (k * 4 + 1)) l.point ≡ false
