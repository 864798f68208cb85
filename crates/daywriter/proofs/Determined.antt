-- Two answers that meet the statement of `write_day` are equal, and so are the lent blocks afterwards.
use Rattle.std.specs.Prelude.{Result}
use mathlib.Core.Path.{◌≡◌}
use mathlib.Core.List.{List}
use Prim.Native.Nat.{ℕ}
use Rattle.units.proofs.Determined.{determined}
use Rattle.dayformat.specs.declared.day.Day.{Day}
use Rattle.daywriter.specs.Answer.{WrittenAnswered}
use Rattle.units.specs.declared.refusal.Refusal.{Refusal}

pub written_determined : {day : Day} {numbers lent : List ℕ} {r₁ r₂ : Result ℕ Refusal} {l₁ l₂ : List ℕ}
    → WrittenAnswered day numbers lent l₁ r₁ → WrittenAnswered day numbers lent l₂ r₂ → (r₁ ≡ r₂) × (l₁ ≡ l₂)
written_determined a b = (determined a.answers b.answers, determined a.leaves b.leaves)
