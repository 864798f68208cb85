-- Two answers that meet the statement of `share_round` are equal, and so are the lent lists afterwards.
use Rattle.std.specs.Prelude.{Result}
use mathlib.Core.Path.{◌≡◌}
use mathlib.Core.List.{List}
use Prim.Native.Nat.{ℕ}
use Rattle.units.proofs.Determined.{determined}
use Rattle.rounds.specs.Answer.{RoundAnswered}
use Rattle.rounds.specs.declared.Given.{Given}
use Rattle.units.specs.declared.refusal.Refusal.{Refusal}

pub round_determined : {c : ℕ} {ws qs lent : List ℕ} {r₁ r₂ : Result Given Refusal} {l₁ l₂ : List ℕ}
    → RoundAnswered c ws qs lent r₁ l₁ → RoundAnswered c ws qs lent r₂ l₂ → (r₁ ≡ r₂) × (l₁ ≡ l₂)
round_determined a b = (determined a.answers b.answers, determined a.leaves b.leaves)
