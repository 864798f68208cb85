-- A sound day's numbers and counts are what every routine on them asks first, its rows may be had, their keys rise, and each number is
-- within the bound of its kind.
use Rattle.std.specs.Prelude.{Ok}
use mathlib.Core.Path.{◌≡◌, refl}
use mathlib.Core.Bool.{true}
use mathlib.Core.List.{List}
use Prim.Native.Nat.{ℕ, ◌≤◌, ◌<◌}
use native.Mathlib.Nat.{le_refl}
use borrow.Author.Tests.{eq-eqb, lt-ltb}
use lib.Dec.{ltb, eqb}
use lib.ListN.{length}
use Rattle.columns.specs.Column.{col}
use Rattle.units.specs.Refusals.{◌then◌, keep}
use Rattle.units.proofs.Checks.{accepts-both, accepts-kept, accepts-clear}
use Rattle.dayformat.specs.declared.day.Day.{Day}
use Rattle.dayformat.specs.declared.form.Tag.{Tag}
use Rattle.dayformat.specs.Format.{body, column_in, form}
use Rattle.dayformat.specs.Layout.{count, numbers_in, row_start}
use Rattle.dayformat.specs.Acceptance.{counts_check}
use Rattle.dayformat.specs.Private.{HasTable}
use Rattle.dayformat.proofs.Accepting.{counts_accept}
use Rattle.dayrows.specs.declared.Source.TheVariants.{File}
use Rattle.dayrows.specs.declared.Test.TheVariants.{Bounds, Key}
use Rattle.dayrows.specs.Test.{bounded, capped, rises, passes}
use Rattle.dayrows.specs.Private.{Sound}
use Rattle.dayrows.proofs.Within.{both, passes-bounded, within-bounds}
use Rattle.dayvalues.specs.Row.{number_at, beyond_row, row_check}

module _ (day : Day) (numbers : List ℕ) (S : Sound day numbers) where
  -- 9, then the counts' 3
  pub counted :
      (Ok tt then keep (eqb (length numbers) (numbers_in day.counts)) 9 then counts_check day.counts) ≡ Ok tt
  counted = accepts-both (accepts-both refl (accepts-kept 9 (eq-eqb _ _ S.long))) (counts_accept day.counts S.few)

  module _ (tag : Tag) (t : HasTable tag) (row : ℕ) (l : row < count day.counts tag) where
    abbrev at : ℕ
    at = row_start day.counts tag row

    inside : (bounded (col numbers) tag at ≡ true) × (capped day.counts (col numbers) tag at ≡ true)
    unfolding passes
    inside = both _ _ (both (ltb row (form tag).most) _ (S.passes tag t Bounds row l)).1

    pub row-accepts : row_check day.counts numbers tag row ≡ Ok tt
    unfolding row_check beyond_row
    row-accepts =
        accepts-both (accepts-both counted (accepts-kept 3 (lt-ltb row _ l)))
        (accepts-clear _ _ _ (rw inside.0 (le_refl (count day.counts tag))))

    pub sound-capped : capped day.counts (col numbers) tag at ≡ true
    sound-capped = inside.1

    pub sound-rises : rises day.counts (col numbers) tag row ≡ true
    unfolding passes
    sound-rises = (both (rises day.counts (col numbers) tag row) _ (S.passes tag t Key row l)).0

    pub sound-number : (place : ℕ) → place < (form tag).columns
        → number_at day.counts (col numbers) tag row place ≤ (column_in (body tag) place).high
    sound-number place few =
        (within-bounds (column_in (body tag) place) _
        ((passes-bounded File day.counts (col numbers) tag row (S.passes tag t Bounds row l)).1 place few)).1
