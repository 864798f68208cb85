-- A point's entries are rows of the entry table, so days that are alike up to the entries have the same ones.
use mathlib.Core.Path.{◌≡◌, refl, ap, ap₂, ◌∙◌}
use mathlib.Core.Bool.{not}
use Prim.Native.Nat.{ℕ, ◌+◌, ◌-◌, ◌≤◌, ◌<◌}
use native.Mathlib.Omega.{arith}
use Rattle.columns.specs.First.{first}
use Rattle.columns.proofs.Firsts.{first_le, first-same}
use Rattle.dayformat.specs.declared.form.Tag.TheVariants.{Entry}
use Rattle.dayformat.specs.declared.layout.Counts.{Counts}
use Rattle.dayformat.specs.Format.{table_place}
use Rattle.dayformat.specs.Layout.{count}
use Rattle.dayvalues.specs.Row.{number_at}
use Rattle.dayvalues.proofs.Earlier.{Alike, count_same, number_same}
use Rattle.entrylists.specs.PointRows.{is_entry, first_row, many_rows, entry_number}

pub rows_inside : (counts : Counts) (numbers : ℕ → ℕ) (side point : ℕ)
    → first_row counts numbers side point + many_rows counts numbers side point ≤ count counts Entry
rows_inside counts numbers side point =
    let from = first_row counts numbers side point in
    omega (
      arith,
      first_le (is_entry counts numbers side point) (count counts Entry),
      first_le (λ more. not (is_entry counts numbers side point (from + more))) (count counts Entry - from),
    )

module _ {many : ℕ} {c d : Counts} {f g : ℕ → ℕ} (A : Alike many c d f g) (early : table_place Entry < many) (side point : ℕ) where
  is_entry-same : (row : ℕ) → row < count c Entry → is_entry c f side point row ≡ is_entry d g side point row
  unfolding is_entry
  is_entry-same row l =
      let here = number_same A Entry refl early row l in
      rw (here 0 (omega arith), here 1 (omega arith))

  first_row-same : first_row c f side point ≡ first_row d g side point
  first_row-same =
      first-same (count c Entry) (is_entry c f side point) (is_entry d g side point) is_entry-same
      ∙ ap (λ rows. first rows (is_entry d g side point)) (count_same A Entry refl early)

  pub many_rows-same : many_rows c f side point ≡ many_rows d g side point
  many_rows-same =
      let from = first_row c f side point in
      first-same (count c Entry - from) (λ more. not (is_entry c f side point (from + more)))
      (λ more. not (is_entry d g side point (from + more)))
      (λ more l. ap not (is_entry-same (from + more) (omega (arith, l))))
      ∙ ap₂ (λ rows from. first (rows - from) (λ more. not (is_entry d g side point (from + more))))
      (count_same A Entry refl early) first_row-same

  pub entry_number-same : (entry : ℕ) → entry < many_rows c f side point → (place : ℕ) → place < 4
      → entry_number c f side point entry place ≡ entry_number d g side point entry place
  entry_number-same entry l place k =
      number_same A Entry refl early (first_row c f side point + entry) (omega (arith, l, rows_inside c f side point)) place k
      ∙ ap (λ from. number_at d g Entry (from + entry) place) first_row-same
