-- Two answers that meet the statement of `meter_delivered` are equal, and so are the lent lists afterwards.
use mathlib.Core.Path.{◌≡◌}
use mathlib.Core.List.{List}
use Prim.Native.Nat.{ℕ}
use Rattle.units.proofs.Determined.{determined}
use Rattle.dayformat.specs.declared.layout.Counts.{Counts}
use Rattle.daymeters.specs.Hours.{Delivered}
use Rattle.units.specs.Refusals.{Check}

pub delivered_determined : {counts : Counts} {numbers : List ℕ} {row : ℕ} {lent : List ℕ} {r₁ r₂ : Check} {l₁ l₂ : List ℕ}
    → Delivered counts numbers row lent r₁ l₁ → Delivered counts numbers row lent r₂ l₂ → (r₁ ≡ r₂) × (l₁ ≡ l₂)
delivered_determined a b = (determined a.answers b.answers, determined a.leaves b.leaves)
