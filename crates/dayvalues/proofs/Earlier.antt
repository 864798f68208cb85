-- Days that are alike in their first so many tables have the same rows there: such a row's numbers stand before the next table begins.
use mathlib.Core.Path.{◌≡◌, ap, ◌∙◌}
use Prim.Native.Nat.{ℕ, suc, ◌+◌, ◌*◌, ◌<◌}
use native.Mathlib.Nat.{mul-le-mul_right}
use native.Mathlib.Omega.{arith}
use lib.Dec.{eqb}
use Rattle.columns.specs.First.{first}
use Rattle.columns.proofs.Firsts.{first-same}
use Rattle.dayformat.specs.declared.form.Tag.{Tag}
use Rattle.dayformat.specs.declared.layout.Counts.{Counts}
use Rattle.dayformat.specs.Format.{table_place, form}
use Rattle.dayformat.specs.Layout.{count, numbers_before, row_start}
use Rattle.dayformat.specs.Private.{HasTable, Agree}
use Rattle.dayformat.proofs.Layouts.{before-next, before-within}
use Rattle.dayformat.proofs.Small.{small}
use Rattle.dayrows.proofs.Same.{start-same}
use Rattle.dayvalues.specs.Row.{number_at, row_beginning}

-- as many rows and the same numbers, in the first so many tables
pub record Alike (many : ℕ) (c d : Counts) (f g : ℕ → ℕ) : Type 0 where
  pub agree : Agree many c d
  pub numbers : (place : ℕ) → place < numbers_before c many → f place ≡ g place

module _ {many : ℕ} {c d : Counts} {f g : ℕ → ℕ} (A : Alike many c d f g) (tag : Tag) (t : HasTable tag)
    (early : table_place tag < many) where
  pub count_same : count c tag ≡ count d tag
  count_same = rw t at (A.agree (table_place tag) early)

  -- of any row, where the number stands in those tables
  pub number-same-below : (row place : ℕ) → row_start c tag row + place < numbers_before c many
      → number_at c f tag row place ≡ number_at d g tag row place
  number-same-below row place l =
      A.numbers (row_start c tag row + place) l
      ∙ ap (λ start. g (start + row * (form tag).columns + place))
      (start-same tag c d (λ place k. A.agree place (omega (arith, k, early))))

  pub number_same : (row : ℕ) → row < count c tag → (place : ℕ) → place < (form tag).columns
      → number_at c f tag row place ≡ number_at d g tag row place
  number_same row l place k =
      number-same-below row place
      (omega (
        arith,
        k,
        mul-le-mul_right (form tag).columns l,
        before-next c tag t,
        before-within c (suc (table_place tag)) many early,
      ))

  pub row_beginning-same : (number : ℕ) → row_beginning c f tag number ≡ row_beginning d g tag number
  row_beginning-same number =
      first-same (count c tag) (λ row. eqb (number_at c f tag row 0) number) (λ row. eqb (number_at d g tag row 0) number)
      (λ row l. ap (λ key. eqb key number) (number_same row l 0 (small tag).some_columns))
      ∙ ap (λ rows. first rows (λ row. eqb (number_at d g tag row 0) number)) count_same
