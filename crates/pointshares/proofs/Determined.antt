-- Two answers that meet the statement of `share_hour` are equal, and so are the lent lists afterwards.
use Rattle.std.specs.Prelude.{Result}
use mathlib.Core.Path.{◌≡◌}
use mathlib.Core.List.{List}
use Prim.Native.Nat.{ℕ}
use Rattle.units.proofs.Determined.{determined}
use Rattle.pointshares.specs.Answer.{HourAnswered}
use Rattle.units.specs.declared.Megajoules.{Megajoules}
use Rattle.units.specs.declared.refusal.Refusal.{Refusal}

pub hour_determined : {h : ℕ} {entitlements mdqs lent : List ℕ} {r₁ r₂ : Result Megajoules Refusal} {l₁ l₂ : List ℕ}
    → HourAnswered h entitlements mdqs lent r₁ l₁ → HourAnswered h entitlements mdqs lent r₂ l₂ → (r₁ ≡ r₂) × (l₁ ≡ l₂)
hour_determined a b = (determined a.answers b.answers, determined a.leaves b.leaves)
