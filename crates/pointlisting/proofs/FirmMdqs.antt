-- Every shipper that a sound day's entry names is listed, so its firm MDQ is that of a row, within its bound.
use mathlib.Core.Path.{◌≡◌, refl, sym, ◌∙◌}
use mathlib.Core.Bool.{true, false, cond}
use mathlib.Core.List.{List}
use Prim.Native.Nat.{ℕ, ◌+◌, ◌≤◌, ◌<◌}
use native.Mathlib.Omega.{arith}
use borrow.Author.Tests.{ltb-true}
use Rattle.columns.specs.Column.{col}
use Rattle.units.specs.Bound.{most_gigajoules}
use Rattle.dayformat.specs.declared.day.Day.{Day}
use Rattle.dayformat.specs.declared.form.Tag.TheVariants.{Shipper, Point, Entry}
use Rattle.dayformat.specs.Format.{body, column_in}
use Rattle.dayformat.specs.Layout.{count, row_start}
use Rattle.dayrows.specs.declared.Source.TheVariants.{File}
use Rattle.dayrows.specs.declared.Test.TheVariants as Test
use Rattle.dayrows.specs.Test.{rises, lists, names_listed, named, passes}
use Rattle.dayrows.specs.Private.{Sound}
use Rattle.dayrows.proofs.Within.{both, passes-bounded, within-bounds}
use Rattle.dayvalues.specs.Row.{number_at}
use Rattle.dayvalues.proofs.OneKey.{lists_is}
use Rattle.pointhours.specs.HourText.{shipper_row, firm_mdq}

module _ (day : Day) (numbers : List ℕ) (S : Sound day numbers) where
  abbrev shipper : ℕ → ℕ
  shipper row = number_at day.counts (col numbers) Entry row 2

  shipper-named : (row : ℕ) → row < count day.counts Entry
      → lists day.counts (col numbers) Shipper (row_start day.counts Entry row + 2) ≡ true
  unfolding passes names_listed
  shipper-named row l =
      let at = row_start day.counts Entry row in
      let kept = both (rises day.counts (col numbers) Entry row) (named day.counts (col numbers) Entry at)
      (S.passes Entry refl Test.Key row l) in
      let point = both (lists day.counts (col numbers) Point (at + 0))
      (cond (lists day.counts (col numbers) Shipper (at + 2)) true false) kept.1 in
      (both (lists day.counts (col numbers) Shipper (at + 2)) true point.1).0

  shipper-listed : (row : ℕ) → row < count day.counts Entry
      → shipper_row day.counts (col numbers) (shipper row) < count day.counts Shipper
  shipper-listed row l =
      ltb-true _ _
      (sym (lists_is day.counts (col numbers) Shipper refl (row_start day.counts Entry row + 2)) ∙ shipper-named row l)

  pub firm-bounded : (row : ℕ) → row < count day.counts Entry → firm_mdq day.counts (col numbers) (shipper row) ≤ most_gigajoules
  unfolding column_in
  firm-bounded row l =
      let listed = shipper_row day.counts (col numbers) (shipper row) in
      (within-bounds (column_in (body Shipper) 1) (number_at day.counts (col numbers) Shipper listed 1)
      ((passes-bounded File day.counts (col numbers) Shipper listed (S.passes Shipper refl Test.Bounds listed (shipper-listed row l))
      ).1 1 (omega arith))).1
