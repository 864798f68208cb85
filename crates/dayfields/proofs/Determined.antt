-- Two answers that meet the statement of `take_field` are equal, and so are the lent lists afterwards.
use mathlib.Core.Path.{◌≡◌}
use mathlib.Core.List.{List}
use Prim.Native.Nat.{ℕ}
use Rattle.units.proofs.Determined.{determined}
use Rattle.dayformat.specs.declared.form.Tag.{Tag}
use Rattle.dayformat.specs.declared.layout.Counts.{Counts}
use Rattle.dayrows.specs.declared.Source.{Source}
use Rattle.dayrows.specs.Fault.{Found}
use Rattle.dayfields.specs.Field.{Taken}

pub taken_determined : {source : Source} {counts : Counts} {file : List ℕ} {tag : Tag} {at row : ℕ} {lent l₁ l₂ : List ℕ} {f₁ f₂ : Found}
    → Taken source counts file tag at row lent l₁ f₁ → Taken source counts file tag at row lent l₂ f₂ → (f₁ ≡ f₂) × (l₁ ≡ l₂)
taken_determined a b = (determined a.answers b.answers, determined a.lays b.lays)
