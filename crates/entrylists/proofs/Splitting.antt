-- The delivery list begins within the run.
use mathlib.Core.List.{List}
use Prim.Native.Nat.{ℕ, ◌+◌, ◌*◌, ◌/◌, ◌≤◌}
use native.Mathlib.Omega.{arith}
use lib.Dec.{eqb}
use lib.ListN.{length}
use Rattle.columns.specs.Column.{col, listed}
use Rattle.columns.proofs.Firsts.{first_le}
use Rattle.bigendian.specs.Row.{size}
use Rattle.dayformat.specs.Format.{column_in}
use Rattle.entrylists.specs.SideLists.{first_delivery}

pub split-within : (list : List ℕ) → first_delivery list ≤ length list
unfolding size listed column_in
split-within list = omega (arith, first_le (λ row. eqb (col list (row * 12 + 3)) 1) (length list / 12))
