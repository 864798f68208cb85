-- What is enough for a row to be sound.
use mathlib.Core.Path.{◌≡◌, ap, ◌∙◌}
use mathlib.Core.Bool.{true}
use Prim.Native.Nat.{ℕ, ◌+◌, ◌*◌, ◌<◌}
use borrow.Author.Tests.{eq-eqb}
use native.Mathlib.Decide.{dec_lt}
use native.Mathlib.Omega.{arith}
use Rattle.columns.specs.Sum.{sum}
use Rattle.dayformat.specs.declared.form.Tag.{Tag}
use Rattle.dayformat.specs.declared.form.Tag.TheVariants.{Shipper, Point}
use Rattle.dayformat.specs.declared.layout.Counts.{Counts}
use Rattle.dayformat.specs.Format.{body, column_in, form}
use Rattle.dayformat.specs.Layout.{count, table_start, row_start}
use Rattle.dayrows.specs.Test.{in_bounds, bounded, difference, keyed, lists}
use Rattle.dayrows.proofs.Searches.{witnessed, unmarked}

-- each of its numbers is within its bounds
pub bounded_by : (f : ℕ → ℕ) (tag : Tag) (at : ℕ)
    → ((place : ℕ) → place < (form tag).columns → in_bounds (column_in (body tag) place) (f (at + place)) ≡ true) → bounded f tag at ≡ true
unfolding bounded
bounded_by f tag at all = unmarked _ (form tag).columns (λ place l. rw (all place l))

module _ (counts : Counts) (f : ℕ → ℕ) where
  -- a row of the tag has each number of the key
  pub keyed_by : (tag : Tag) (row at : ℕ)
      → ((place : ℕ) → place < (form tag).key → f (row_start counts tag row + place) ≡ f (at + place)) → keyed counts f tag at row ≡ true
  unfolding difference
  keyed_by tag row at same = unmarked _ (form tag).key (λ place h. rw (eq-eqb _ _ (same place h)))

  pub keyed-listed : (tag : Tag) (row at : ℕ) → row < count counts tag → keyed counts f tag at row ≡ true → lists counts f tag at ≡ true
  unfolding lists
  keyed-listed tag row at l e = witnessed (λ row. keyed counts f tag at row) (count counts tag) row l e

  pub listed_by : (tag : Tag) (row at : ℕ) → row < count counts tag
      → ((place : ℕ) → place < (form tag).key → f (row_start counts tag row + place) ≡ f (at + place)) → lists counts f tag at ≡ true
  listed_by tag row at l same = keyed-listed tag row at l (keyed_by tag row at same)

  pub listed-shipper : (row at : ℕ) → row < counts.shippers → f (row * 6) ≡ f at → lists counts f Shipper at ≡ true
  unfolding sum
  listed-shipper row at l name =
      listed_by Shipper row at l
      (λ place h. let here : place ≡ 0 = omega (arith, h) in rw here (ap f (omega arith) ∙ name ∙ ap f (omega arith)))

  pub listed-point : (row at : ℕ) → row < counts.points → f (table_start counts Point + row * 3) ≡ f at
      → f (table_start counts Point + row * 3 + 1) ≡ f (at + 1) → lists counts f Point at ≡ true
  listed-point row at l side name = listed_by Point row at l (λ place h. by place h (dec_lt place 1))
    where
      by : (place : ℕ) → place < 2 → Dec (place < 1) → f (table_start counts Point + row * 3 + place) ≡ f (at + place)
      by place h (yes k) = let here : place ≡ 0 = omega (arith, k) in rw here (ap f (omega arith) ∙ side ∙ ap f (omega arith))
      by place h (no k) = let here : place ≡ 1 = omega (arith, h, k) in rw here name
