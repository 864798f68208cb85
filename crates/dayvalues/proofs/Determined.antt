-- Two answers that meet the statement of `shipper_column` are equal, and so are the lent lists afterwards.
use Rattle.std.specs.Prelude.{Result}
use mathlib.Core.Path.{◌≡◌}
use mathlib.Core.List.{List}
use Prim.Native.Nat.{ℕ}
use Rattle.units.proofs.Determined.{determined}
use Rattle.dayformat.specs.declared.layout.Counts.{Counts}
use Rattle.dayvalues.specs.declared.column.ShipperColumn.{ShipperColumn}
use Rattle.dayvalues.specs.Column.{ColumnAnswered}
use Rattle.units.specs.declared.refusal.Refusal.{Refusal}

pub column_determined : {counts : Counts} {numbers : List ℕ} {which : ShipperColumn} {lent : List ℕ}
    {r₁ r₂ : Result ℕ Refusal} {l₁ l₂ : List ℕ}
    → ColumnAnswered counts numbers which lent r₁ l₁ → ColumnAnswered counts numbers which lent r₂ l₂ → (r₁ ≡ r₂) × (l₁ ≡ l₂)
column_determined a b = (determined a.answers b.answers, determined a.leaves b.leaves)
