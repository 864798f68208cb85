-- A day's table is made of its head and of its shippers' rows, so days that are alike up to the shippers have one table.
use mathlib.Core.Path.{◌≡◌, refl, ap, ◌∙◌}
use Prim.Native.Nat.{ℕ, ◌<◌}
use native.Mathlib.Omega.{arith}
use Rattle.columns.specs.Column.{listed}
use Rattle.columns.proofs.Lists.{listed_same}
use Rattle.dayformat.specs.declared.day.Day.{Day}
use Rattle.dayformat.specs.declared.form.Tag.TheVariants.{Shipper}
use Rattle.dayformat.specs.Format.{table_place}
use Rattle.dayformat.specs.Layout.{count}
use Rattle.dayvalues.specs.Column.{column}
use Rattle.dayvalues.proofs.Earlier.{Alike, count_same, number_same}
use Rattle.numbershares.specs.DayTable.{table_of}

module _ (day other : Day) {many : ℕ} {f g : ℕ → ℕ} (A : Alike many day.counts other.counts f g)
    (early : table_place Shipper < many) where
  column-same : (place : ℕ) → place < 6
      → listed (count day.counts Shipper) (column day.counts f place)
      ≡ listed (count other.counts Shipper) (column other.counts g place)
  column-same place l =
      listed_same (count day.counts Shipper) (column day.counts f place) (column other.counts g place)
      (λ row k. number_same A Shipper refl early row k place l)
      ∙ ap (λ rows. listed rows (column other.counts g place)) (count_same A Shipper refl early)

  pub table_same : day.head ≡ other.head → table_of day f ≡ table_of other g
  table_same head =
      rw (
        head,
        column-same 1 (omega arith),
        column-same 2 (omega arith),
        column-same 3 (omega arith),
        column-same 4 (omega arith),
        column-same 5 (omega arith),
      )
