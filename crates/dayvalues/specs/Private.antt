-- What the private routines of this crate ask, and what they do.
use Rattle.std.specs.Prelude.{List, ℕ, ◌≤◌, ◌<◌, length}
use Rattle.units.specs.Bound.{most_gigajoules}
use Rattle.dayformat.specs.declared.form.Tag.TheVariants.{Shipper}
use Rattle.dayformat.specs.declared.layout.Counts.{Counts}
use Rattle.dayformat.specs.Layout.{count}
use Rattle.dayvalues.specs.Column.{column}

-- what the loop over a column asks: every number is within its bound, and there is room for all
pub record Fillable (counts : Counts) (numbers : ℕ → ℕ) (place : ℕ) (lent : List ℕ) : Type 0 where
  pub bounded : (row : ℕ) → row < count counts Shipper → column counts numbers place row ≤ most_gigajoules
  pub fits : count counts Shipper ≤ length lent
