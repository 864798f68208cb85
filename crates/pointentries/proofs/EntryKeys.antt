-- In a sound list of one side's entries the points never fall: keys rise, and the side is one.
use Rattle.std.specs.Prelude.{Ok}
use mathlib.Core.Path.{◌≡◌, refl, ap, sym, ◌∙◌}
use mathlib.Core.Logic.{⊎_elim}
use mathlib.Core.Bool.{true, false, cond, not}
use mathlib.Core.List.{List}
use Prim.Native.Nat.{ℕ, zero, suc, ◌+◌, ◌*◌, ◌≤◌, ◌<◌}
use native.Mathlib.Nat.{add-zero, zero-add, le_trans, eq-or-lt_of_le, le_of_eq, le_of_lt, lt-suc_self, le_of_suc-le-suc}
use native.Mathlib.Omega.{arith}
use borrow.Author.Tests.{ltb-true, eqb-true, not-false}
use lib.Dec.{ltb, eqb}
use Rattle.columns.specs.Column.{col}
use Rattle.columns.specs.Sum.{sum}
use Rattle.columns.proofs.Firsts.{first-before}
use Rattle.columns.proofs.Joined.{col-joined}
use Rattle.dayformat.specs.declared.form.Tag.TheVariants as Tag
use Rattle.dayformat.specs.Layout.{no_rows, row_start}
use Rattle.dayrows.specs.declared.Source.TheVariants as Source
use Rattle.dayrows.specs.declared.Test.TheVariants as Test
use Rattle.dayrows.specs.Test.{bounded, difference, rises, passes, fault}
use Rattle.dayrows.proofs.Faults.{fault-none}
use Rattle.dayrows.proofs.Within.{both}
use Rattle.dayruns.specs.Run.{Fields, row_of, rows_of}
use Rattle.dayruns.proofs.Running.{length-row, field-none}
use Rattle.pointentries.specs.Entries.{entries, entry_rows}
use Rattle.pointentries.proofs.EntryLists.{rows-sound}

-- where two keys agree in their first number, the second does not fall
module _ (numbers : ℕ → ℕ) (key before here : ℕ) (agree : numbers (before + 0) ≡ numbers (here + 0)) where
  abbrev place : ℕ
  place = difference numbers key before here

  same-before : (k : ℕ) → k < place → numbers (before + k) ≡ numbers (here + k)
  unfolding difference
  same-before k l = eqb-true _ _ (not-false _ (first-before (λ k. not (eqb (numbers (before + k)) (numbers (here + k)))) key k l))

  second-kept : cond (ltb place key) (ltb (numbers (before + place)) (numbers (here + place))) false ≡ true
      → numbers (before + 1) ≤ numbers (here + 1)
  second-kept e = by place refl
    where
      less : numbers (before + place) < numbers (here + place)
      less = ltb-true (numbers (before + place)) (numbers (here + place)) (both (ltb place key) _ e).1

      by : (found : ℕ) → place ≡ found → numbers (before + 1) ≤ numbers (here + 1)
      by zero e = absurd (omega (arith, agree, rw e at less))
      by (suc zero) e = le_of_lt (rw e at less)
      by (suc (suc k)) e = le_of_eq (same-before 1 (omega (arith, e)))

module _ (list : List ℕ) (side : ℕ) where
  abbrev F : Fields
  F = entries list side

  abbrev rows : ℕ
  rows = entry_rows list side

  abbrev read : ℕ → ℕ → ℕ
  read many = col (rows_of F many)

  -- a row's numbers among those of so many rows
  number_at : (many row place : ℕ) → row < many → place < 4
      → read many (row_start no_rows Tag.Entry row + place) ≡ col (row_of F row) place
  unfolding sum
  number_at many row place l k =
      ap (λ at. read many (at + place)) (zero-add (row * 4)) ∙ col-joined (row_of F) 4 (length-row F) many row place l k

  module _ (row : ℕ) (inside : row < rows) where
    -- no test of the row fails
    none : fault (Source.Side side) no_rows (read (suc row)) Tag.Entry row ≡ Ok tt
    none = (field-none F read row (rows-sound list side row inside)).1

    -- every row is of the side
    side_is : col (row_of F row) 0 ≡ side
    unfolding passes
    side_is =
        let at = row_start no_rows Tag.Entry row in
        let tests = fault-none (Source.Side side) no_rows (read (suc row)) Tag.Entry row none Test.Bounds in
        let tested = both (bounded (read (suc row)) Tag.Entry at) _ (both (ltb row 512) _ tests).1 in
        sym (number_at (suc row) row 0 (lt-suc_self row) (omega arith)) ∙ ap (read (suc row)) (add-zero at) ∙ eqb-true _ side tested.1

  next-point : (row : ℕ) → suc row < rows → col (row_of F row) 1 ≤ col (row_of F (suc row)) 1
  unfolding passes rises
  next-point row l =
      let numbers = read (suc (suc row)) in
      let tests = fault-none (Source.Side side) no_rows numbers Tag.Entry (suc row) (none (suc row) l) Test.Key in
      let earlier = number_at (suc (suc row)) row in
      let later = number_at (suc (suc row)) (suc row) in
      let sides =
      earlier 0 (omega arith) (omega arith) ∙ side_is row (omega arith) ∙ sym (later 0 (omega arith) (omega arith) ∙ side_is (suc row) l)
      in
      let points =
      second-kept numbers 3 (row_start no_rows Tag.Entry row) (row_start no_rows Tag.Entry (suc row)) sides (both _ _ tests).0
      in
      omega (arith, points, earlier 1 (omega arith) (omega arith), later 1 (omega arith) (omega arith))

  pub points_ordered : (i j : ℕ) → i ≤ j → j < rows → col (row_of F i) 1 ≤ col (row_of F j) 1
  points_ordered i zero h l = le_of_eq (ap (λ k. col (row_of F k) 1) (omega (arith, h)))
  points_ordered i (suc j) h l =
      ⊎_elim (λ e. le_of_eq (ap (λ k. col (row_of F k) 1) e))
      (λ k. le_trans (points_ordered i j (le_of_suc-le-suc k) (omega (arith, l))) (next-point j l)) (eq-or-lt_of_le h)
