-- Words and figures laid one after another make the head line.
use mathlib.Core.List.{List, [], ◌∷◌}
use Prim.Native.Nat.{ℕ, ◌+◌}
use Rattle.text.specs.Text.{decimal, Laid}
use Rattle.units.specs.declared.Rate.{Rate}
use Rattle.lines.specs.Line.{spaced, labelled, line, decimals, day_word}
use Rattle.lines.proofs.Lining.{line-labelled, lining_first, lining_next}
use Rattle.chargelisting.specs.ChargesText.{rate_word, head_line}

pub head-laid : (day : ℕ) (rate : Rate) {lent l₁ l₂ after : List ℕ} {at m₁ m₂ m₃ : ℕ} → Laid (labelled day_word day) lent at m₁ l₁
    → Laid (spaced rate_word) l₁ (at + m₁) m₂ l₂ → Laid (line (decimals (rate.0 ∷ []))) l₂ (at + (m₁ + m₂)) m₃ after
    → Laid (head_line day rate) lent at (m₁ + m₂ + m₃) after
unfolding line
head-laid day rate a b c = rw (line-labelled day_word rate_word day (decimal rate.0 ∷ [])) ((lining_next (lining_first a) b).finishes c)
