-- The row where a number is beyond its bounds: what it says of the row's numbers.
use mathlib.Core.Path.{◌≡◌, refl}
use mathlib.Core.Bool.{Bool, true, false, cond}
use Prim.Native.Nat.{ℕ, ◌≤◌, ◌<◌}
use native.Mathlib.Omega.{arith}
use borrow.Author.Tests.{leb-true}
use Rattle.columns.proofs.Firsts.{first-passed}
use Rattle.dayformat.specs.declared.form.Tag.{Tag}
use Rattle.dayformat.specs.declared.layout.Counts.{Counts}
use Rattle.dayformat.specs.Format.{form}
use Rattle.dayformat.specs.Layout.{count, row_start}
use Rattle.dayrows.specs.Test.{bounded}
use Rattle.dayvalues.specs.Row.{beyond, beyond_row}

module _ (counts : Counts) (numbers : ℕ → ℕ) (tag : Tag) (row : ℕ) where
  -- where it is past the rows no number is
  pub none-beyond : row < count counts tag → count counts tag ≤ beyond_row counts numbers tag row
      → (place : ℕ) → place < (form tag).columns → beyond counts numbers tag row place ≡ false
  unfolding beyond_row bounded beyond
  none-beyond l = by (bounded numbers tag (row_start counts tag row)) refl
    where
      by : (b : Bool) → bounded numbers tag (row_start counts tag row) ≡ b → count counts tag ≤ cond b (count counts tag) row
          → (place : ℕ) → place < (form tag).columns → beyond counts numbers tag row place ≡ false
      by true e h = first-passed _ _ (leb-true _ _ e)
      by false e h = absurd (omega arith)
