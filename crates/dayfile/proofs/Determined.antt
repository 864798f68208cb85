-- Two answers that meet the statement of `read_day` are equal, and so are the lent blocks afterwards.
use Rattle.std.specs.Prelude.{Result}
use mathlib.Core.Path.{◌≡◌}
use mathlib.Core.List.{List}
use Prim.Native.Nat.{ℕ}
use Rattle.units.proofs.Determined.{determined}
use Rattle.dayfile.specs.Answer.{ReadingAnswered}
use Rattle.dayformat.specs.declared.day.Day.{Day}
use Rattle.units.specs.declared.refusal.Refusal.{Refusal}

pub reading_determined : {file lent l₁ l₂ : List ℕ} {r₁ r₂ : Result Day Refusal}
    → ReadingAnswered file lent l₁ r₁ → ReadingAnswered file lent l₂ r₂
    → (r₁ ≡ r₂) × (l₁ ≡ l₂)
reading_determined a b = (determined a.answers b.answers, determined a.leaves b.leaves)
