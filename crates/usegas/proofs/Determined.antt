-- Two answers that meet the statement of an open routine are equal, and so are lent lists afterwards.
use Rattle.std.specs.Prelude.{Result}
use mathlib.Core.Path.{◌≡◌}
use mathlib.Core.List.{List}
use Prim.Native.Nat.{ℕ}
use Rattle.units.proofs.Determined.{determined}
use Rattle.usegas.specs.General.{GasAnswered}
use Rattle.usegas.specs.Heater.{HeaterAnswered}
use Rattle.units.specs.declared.Megajoules.{Megajoules}
use Rattle.units.specs.declared.refusal.Refusal.{Refusal}

pub general_determined : {sug fssug foundation : ℕ} {schedules lent : List ℕ} {r₁ r₂ : Result Megajoules Refusal} {l₁ l₂ : List ℕ}
    → GasAnswered sug fssug foundation schedules lent r₁ l₁ → GasAnswered sug fssug foundation schedules lent r₂ l₂ → (r₁ ≡ r₂) × (l₁ ≡ l₂)
general_determined a b = (determined a.answers b.answers, determined a.leaves b.leaves)

pub heater_determined : {sug : ℕ} {schedules lent : List ℕ} {r₁ r₂ : Result Megajoules Refusal} {l₁ l₂ : List ℕ}
    → HeaterAnswered sug schedules lent r₁ l₁ → HeaterAnswered sug schedules lent r₂ l₂ → (r₁ ≡ r₂) × (l₁ ≡ l₂)
heater_determined a b = general_determined a b
