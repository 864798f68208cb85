-- What the private routines of this crate ask, and what they do.
use Rattle.std.specs.Prelude.{ℕ, ◌+◌, ◌^◌, ◌<◌}
use Rattle.month.specs.declared.figures.Figures.{Figures}
use Rattle.month.specs.Figures.{figure, figures_by}

-- each figure with its like
abbrev pub plus : Figures → Figures → Figures
plus F G = figures_by (λ place. figure F place + figure G place)

-- each fits its type
abbrev pub Small : Figures → Type 0
Small F = (place : ℕ) → place < 7 → figure F place < 2 ^ 64
