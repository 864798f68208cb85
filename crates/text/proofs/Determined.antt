-- Two outcomes that meet a statement of this crate are equal.
use mathlib.Core.Path.{◌≡◌, sym, ◌∙◌}
use mathlib.Core.List.{List}
use Prim.Native.Nat.{ℕ}
use lib.ListN.{length}
use Rattle.text.specs.Text.{decimal, Laid}

pub length_determined : (number : ℕ) {r₁ r₂ : ℕ} → r₁ ≡ length (decimal number) → r₂ ≡ length (decimal number) → r₁ ≡ r₂
length_determined number e h = e ∙ sym h

pub laid_determined : {bytes lent : List ℕ} {at r₁ r₂ : ℕ} {l₁ l₂ : List ℕ}
    → Laid bytes lent at r₁ l₁ → Laid bytes lent at r₂ l₂ → (r₁ ≡ r₂) × (l₁ ≡ l₂)
laid_determined a b = (a.counts ∙ sym b.counts, a.lays ∙ sym b.lays)
