-- What the private routines of this crate ask, and what they do.
use Rattle.std.specs.Prelude.{◌≡◌, false, ℕ, ◌<◌}
use Rattle.dayformat.specs.declared.form.Tag.TheVariants.{Meter}
use Rattle.dayformat.specs.declared.layout.Counts.{Counts}
use Rattle.dayformat.specs.Format.{form}
use Rattle.dayvalues.specs.Row.{beyond}

-- every number of the row is within its bounds
abbrev pub Bounded : Counts → (ℕ → ℕ) → ℕ → Type 0
Bounded counts numbers row = (place : ℕ) → place < (form Meter).columns → beyond counts numbers Meter row place ≡ false
