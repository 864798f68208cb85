-- A number within its bounds.
use mathlib.Core.Path.{◌≡◌, refl}
use mathlib.Core.Bool.{Bool, true, false, cond, not}
use Prim.Native.Nat.{ℕ, ◌+◌, ◌≤◌, ◌<◌}
use borrow.Author.Tests.{leb-true, ltb-true, not-false, le-leb, lt-leb}
use native.Mathlib.Omega.{arith}
use Rattle.columns.proofs.Firsts.{first-passed}
use Rattle.dayformat.specs.declared.form.Tag.{Tag}
use Rattle.dayformat.specs.declared.body.Column.{Column}
use Rattle.dayformat.specs.declared.layout.Counts.{Counts}
use Rattle.dayformat.specs.Format.{body, column_in, form}
use Rattle.dayformat.specs.Layout.{row_start}
use Rattle.dayrows.specs.declared.Source.{Source}
use Rattle.dayrows.specs.declared.Test.TheVariants.{Bounds}
use Rattle.dayrows.specs.Test.{in_bounds, bounded, passes}

-- a test asked after another passes where both do
pub both : (t x : Bool) → cond t x false ≡ true → (t ≡ true) × (x ≡ true)
both true x e = (refl, e)
both false x e = let z : ◌≡◌ {A = ℕ} 0 1 = cc in absurd (omega arith)

module _ (column : Column) (number : ℕ) where
  pub above-high : column.low ≤ number → column.high < number → not (in_bounds column number) ≡ true
  above-high l h = rw (le-leb column.low number l, lt-leb number column.high h)

  pub between : column.low ≤ number → number ≤ column.high → not (in_bounds column number) ≡ false
  between l h = rw (le-leb column.low number l, le-leb number column.high h)

  pub within-bounds : in_bounds column number ≡ true → (column.low ≤ number) × (number ≤ column.high)
  within-bounds e = let parts = both _ _ e in (leb-true _ _ parts.0, leb-true _ _ parts.1)

-- each number of a row that keeps its bounds does
pub bounded-each : (f : ℕ → ℕ) (tag : Tag) (at : ℕ) → bounded f tag at ≡ true
    → (place : ℕ) → place < (form tag).columns → in_bounds (column_in (body tag) place) (f (at + place)) ≡ true
unfolding bounded
bounded-each f tag at e place l = not-false _ (first-passed _ _ (leb-true _ _ e) place l)

-- the row is not one too many, and each of its numbers is within its bounds
pub passes-bounded : (source : Source) (c : Counts) (f : ℕ → ℕ) (tag : Tag) (row : ℕ) → passes Bounds source c f tag row ≡ true
    → (row < (form tag).most)
    × ((place : ℕ) → place < (form tag).columns → in_bounds (column_in (body tag) place) (f (row_start c tag row + place)) ≡ true)
unfolding passes
passes-bounded source c f tag row e =
    let few = both _ _ e in
    (ltb-true _ _ few.0, bounded-each f tag (row_start c tag row) (both _ _ few.1).0)
