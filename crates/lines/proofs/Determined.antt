-- Two answers that meet a listing's statement are equal, and so are the lent blocks afterwards.
use Rattle.std.specs.Prelude.{Result}
use mathlib.Core.Path.{◌≡◌}
use mathlib.Core.List.{List}
use Prim.Native.Nat.{ℕ}
use Rattle.units.proofs.Determined.{determined}
use Rattle.lines.specs.Answer.{ListingAnswered}
use Rattle.units.specs.Refusals.{Check}
use Rattle.units.specs.declared.refusal.Refusal.{Refusal}

pub listed_determined : {tests : Check} {text lent : List ℕ} {r₁ r₂ : Result ℕ Refusal} {l₁ l₂ : List ℕ}
    → ListingAnswered tests text lent l₁ r₁ → ListingAnswered tests text lent l₂ r₂ → (r₁ ≡ r₂) × (l₁ ≡ l₂)
listed_determined a b = (determined a.answers b.answers, determined a.leaves b.leaves)
