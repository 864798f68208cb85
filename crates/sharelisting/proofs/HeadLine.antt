-- Words and figures laid one after another make the head line.
use mathlib.Core.List.{List, [], ◌∷◌}
use Prim.Native.Nat.{ℕ, ◌+◌}
use Rattle.text.specs.Text.{decimal, Laid}
use Rattle.lines.specs.Line.{spaced, labelled, line, decimals, day_word}
use Rattle.lines.proofs.Lining.{line-labelled, lining_first, lining_next}
use Rattle.sharelisting.specs.SharesText.{firm_word, left_word, head_line}

pub head-laid : (day firm left : ℕ) {lent l₁ l₂ l₃ after : List ℕ} {at m₁ m₂ m₃ m₄ : ℕ} → Laid (labelled day_word day) lent at m₁ l₁
    → Laid (labelled firm_word firm) l₁ (at + m₁) m₂ l₂ → Laid (spaced left_word) l₂ (at + (m₁ + m₂)) m₃ l₃
    → Laid (line (decimals (left ∷ []))) l₃ (at + (m₁ + m₂ + m₃)) m₄ after
    → Laid (head_line day firm left) lent at (m₁ + m₂ + m₃ + m₄) after
unfolding line
head-laid day firm left a b c d =
    rw (line-labelled day_word firm_word day _, line-labelled firm_word left_word firm (decimal left ∷ []))
    ((lining_next (lining_next (lining_first a) b) c).finishes d)
