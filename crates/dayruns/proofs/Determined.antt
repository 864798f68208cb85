-- Two answers that meet the statement of `run_fields` are equal, and so are the lent lists afterwards.
use mathlib.Core.Path.{◌≡◌}
use mathlib.Core.List.{List}
use Prim.Native.Nat.{ℕ}
use Rattle.units.proofs.Determined.{determined}
use Rattle.dayruns.specs.declared.run.Run.{Run}
use Rattle.dayruns.specs.Run.{Fields, Ran}

pub run_determined : {F : Fields} {lent l₁ l₂ : List ℕ} {r₁ r₂ : Run} → Ran F lent l₁ r₁ → Ran F lent l₂ r₂ → (r₁ ≡ r₂) × (l₁ ≡ l₂)
run_determined a b = (determined a.answers b.answers, determined a.lays b.lays)
