-- No entry that the search has passed is of side 1.
use mathlib.Core.Logic.{◌≢◌}
use Prim.Native.Nat.{ℕ, ◌+◌, ◌*◌, ◌<◌}
use Rattle.columns.specs.Column.{col}
use Rattle.entrylists.proofs.first_delivery.Given as goal

abbrev pub invariant-loop-row : goal.invariant-loop-row
invariant-loop-row l = (k : ℕ) → k < l.row → col l.entries (k * 12 + 3) ≢ 1
