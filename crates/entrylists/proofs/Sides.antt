-- In a sound day's entries the sides never fall: receipts stand before deliveries.
use mathlib.Core.Path.{◌≡◌, refl, ap}
use mathlib.Core.Logic.{⊎_elim}
use mathlib.Core.Bool.{true, false, cond, not}
use mathlib.Core.List.{List}
use Prim.Native.Nat.{ℕ, zero, suc, ◌+◌, ◌≤◌, ◌<◌}
use native.Mathlib.Nat.{le_trans, eq-or-lt_of_le, le_of_eq, le_of_lt, le_of_suc-le-suc}
use native.Mathlib.Omega.{arith}
use borrow.Author.Tests.{ltb-true, eqb-true, eqb-false, not-false}
use lib.Dec.{ltb, eqb}
use Rattle.columns.specs.Column.{col}
use Rattle.columns.specs.First.{first}
use Rattle.columns.proofs.Firsts.{first_le, first-before, first-marked}
use Rattle.dayformat.specs.declared.day.Day.{Day}
use Rattle.dayformat.specs.declared.form.Tag.TheVariants.{Entry}
use Rattle.dayformat.specs.Format.{body, column_in}
use Rattle.dayformat.specs.Layout.{count, row_start}
use Rattle.dayrows.specs.declared.Source.TheVariants.{File}
use Rattle.dayrows.specs.declared.Test.TheVariants as Test
use Rattle.dayrows.specs.Test.{in_bounds, difference, rises, passes}
use Rattle.dayrows.specs.Private.{Sound}
use Rattle.dayrows.proofs.Within.{both, passes-bounded, within-bounds}
use Rattle.dayvalues.specs.Row.{number_at}

-- where a key rises, its first number does not fall
module _ (numbers : ℕ → ℕ) (key before here : ℕ) where
  abbrev place : ℕ
  place = difference numbers key before here

  first-same-before : 0 < place → numbers (before + 0) ≡ numbers (here + 0)
  unfolding difference
  first-same-before l =
      eqb-true _ _ (not-false _ (first-before (λ k. not (eqb (numbers (before + k)) (numbers (here + k)))) key 0 l))

  first-kept : cond (ltb place key) (ltb (numbers (before + place)) (numbers (here + place))) false ≡ true
      → numbers (before + 0) ≤ numbers (here + 0)
  first-kept e = by place refl
    where
      less : numbers (before + place) < numbers (here + place)
      less = ltb-true (numbers (before + place)) (numbers (here + place)) (both (ltb place key) _ e).1

      by : (found : ℕ) → place ≡ found → numbers (before + 0) ≤ numbers (here + 0)
      by zero e = le_of_lt (rw e at less)
      by (suc k) e = le_of_eq (first-same-before (omega (arith, e)))

module _ (day : Day) (numbers : List ℕ) (S : Sound day numbers) where
  abbrev many : ℕ
  many = count day.counts Entry

  abbrev side : ℕ → ℕ
  side row = number_at day.counts (col numbers) Entry row 0

  pub entry-bounded : (row : ℕ) → row < many → (place : ℕ) → place < 4
      → in_bounds (column_in (body Entry) place) (number_at day.counts (col numbers) Entry row place) ≡ true
  entry-bounded row l = (passes-bounded File day.counts (col numbers) Entry row (S.passes Entry refl Test.Bounds row l)).1

  pub side-small : (row : ℕ) → row < many → side row ≤ 1
  unfolding column_in
  side-small row l = (within-bounds (column_in (body Entry) 0) (side row) (entry-bounded row l 0 (omega arith))).1

  next-side : (row : ℕ) → suc row < many → side row ≤ side (suc row)
  unfolding passes rises
  next-side row l =
      first-kept (col numbers) 3 (row_start day.counts Entry row) (row_start day.counts Entry (suc row))
      (both _ _ (S.passes Entry refl Test.Key (suc row) l)).0

  sides_ordered : (i j : ℕ) → i ≤ j → j < many → side i ≤ side j
  sides_ordered i zero h l = let same : i ≡ 0 = omega (arith, h) in le_of_eq (ap side same)
  sides_ordered i (suc j) h l =
      ⊎_elim (λ e. le_of_eq (ap side e))
      (λ k. le_trans (sides_ordered i j (le_of_suc-le-suc k) (omega (arith, l))) (next-side j l)) (eq-or-lt_of_le h)

  -- ---- the first row of side 1 parts them
  abbrev pub receipts : ℕ
  receipts = first many (λ row. eqb (side row) 1)

  pub receipts-inside : receipts ≤ many
  receipts-inside = first_le (λ row. eqb (side row) 1) many

  pub receipt-side : (row : ℕ) → row < receipts → side row ≡ 0
  receipt-side row l =
      by (side row) refl (eqb-false (side row) 1 (first-before (λ row. eqb (side row) 1) many row l))
    where
      by : (found : ℕ) → side row ≡ found → (side row ≡ 1 → ⊥) → side row ≡ 0
      by zero e other = e
      by (suc zero) e other = absurd (other e)
      by (suc (suc k)) e other = absurd (omega (arith, e, side-small row (omega (arith, l, receipts-inside))))

  pub delivery-side : (row : ℕ) → receipts ≤ row → row < many → side row ≡ 1
  delivery-side row h l =
      let here = eqb-true (side receipts) 1 (first-marked (λ row. eqb (side row) 1) many (omega (arith, h, l))) in
      omega (arith, here, sides_ordered receipts row h l, side-small row l)
