-- Two answers that meet the statement of `share_day` are equal, and so are the three lent lists afterwards.
use Rattle.std.specs.Prelude.{Result}
use mathlib.Core.Path.{◌≡◌}
use mathlib.Core.List.{List}
use Prim.Native.Nat.{ℕ}
use Rattle.units.proofs.Determined.{determined}
use Rattle.daytable.specs.Table.{Table}
use Rattle.dayshares.specs.Answer.{SharesAnswered}
use Rattle.units.specs.declared.refusal.Refusal.{Refusal}
use Rattle.dayshares.specs.declared.Shares.{Shares}

pub day_determined : {T : Table} {firm auction lower_tier : List ℕ} {d₁ d₂ : Result Shares Refusal} {f₁ f₂ a₁ a₂ l₁ l₂ : List ℕ}
    → SharesAnswered T firm auction lower_tier d₁ f₁ a₁ l₁ → SharesAnswered T firm auction lower_tier d₂ f₂ a₂ l₂
    → (d₁ ≡ d₂) × (f₁ ≡ f₂) × (a₁ ≡ a₂) × (l₁ ≡ l₂)
day_determined a b = (
  determined a.answers b.answers,
  determined a.leaves_firm b.leaves_firm,
  determined a.leaves_auction b.leaves_auction,
  determined a.leaves_lower_tier b.leaves_lower_tier,
)
