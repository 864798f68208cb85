-- The listing of points is made of the head and of the rows of shippers, points and entries, so it looks at nothing from tag 9's table on.
use mathlib.Core.Path.{◌≡◌, refl, ap, ap₂, ◌∙◌}
use mathlib.Core.List.{◌++◌}
use Prim.Native.Nat.{ℕ, suc, ◌+◌, ◌<◌}
use native.Mathlib.Omega.{arith}
use Rattle.columns.specs.Column.{joined}
use Rattle.columns.proofs.Joined.{joined_same}
use Rattle.dayformat.specs.declared.day.Day.{Day}
use Rattle.dayformat.specs.declared.form.Tag.TheVariants.{Shipper, Point, Entry, Excused}
use Rattle.dayformat.specs.declared.layout.Counts.{Counts}
use Rattle.dayformat.specs.Format.{table_place}
use Rattle.dayformat.specs.Layout.{count, numbers_before, table_start, row_start}
use Rattle.dayformat.specs.Private.{Agree}
use Rattle.dayformat.proofs.Layouts.{before-next, before-within}
use Rattle.dayvalues.specs.declared.column.ShipperColumn.TheVariants.{FirmMdq}
use Rattle.dayvalues.specs.Row.{number_at}
use Rattle.dayvalues.specs.Column.{place_of}
use Rattle.dayvalues.proofs.Earlier.{Alike, count_same, number_same}
use Rattle.pointhours.specs.HourText.{hour_lines, firm_mdq}
use Rattle.pointhours.proofs.Earlier.{firm_mdq-same}
use Rattle.entrylists.specs.PointRows.{many_rows, entry_number}
use Rattle.entrylists.proofs.EntryRows.{rows_inside, many_rows-same, entry_number-same}
use Rattle.pointlisting.specs.PointsText.{day_line, point_line, entry_lines, point_lines, points_text}
use Rattle.pointlisting.proofs.PartRead.{hour-same}

module _ {many : ℕ} {c d : Counts} {f g : ℕ → ℕ} (A : Alike many c d f g) (early : table_place Entry < many) where
  -- where there is an entry, its row stands behind the last shipper's
  entry-behind : 0 < count c Entry → row_start c Shipper (count c Shipper) + place_of FirmMdq < numbers_before c many
  entry-behind some =
      omega (
        arith,
        some,
        before-next c Shipper refl,
        before-within c (suc (table_place Shipper)) (table_place Entry) (omega arith),
        before-next c Entry refl,
        before-within c (suc (table_place Entry)) many early,
      )

  module _ (side point capacity : ℕ) where
    abbrev entries : ℕ
    entries = many_rows c f side point

    abbrev shipper : ℕ → ℕ
    shipper entry = entry_number c f side point entry 2

    abbrev other_shipper : ℕ → ℕ
    other_shipper entry = entry_number d g side point entry 2

    shipper-same : (entry : ℕ) → entry < entries → shipper entry ≡ other_shipper entry
    shipper-same entry l = entry_number-same A early side point entry l 2 (omega arith)

    mdq-same : (entry : ℕ) → entry < entries → firm_mdq c f (shipper entry) ≡ firm_mdq d g (other_shipper entry)
    mdq-same entry l =
        firm_mdq-same A (omega (arith, early)) (entry-behind (omega (arith, l, rows_inside c f side point))) (shipper entry)
        ∙ ap (firm_mdq d g) (shipper-same entry l)

    entries-same : entry_lines c f side point capacity ≡ entry_lines d g side point capacity
    entries-same =
        hour-same capacity entries shipper (λ entry. entry_number c f side point entry 3) (λ entry. firm_mdq c f (shipper entry))
        other_shipper (λ entry. entry_number d g side point entry 3) (λ entry. firm_mdq d g (other_shipper entry)) shipper-same
        (λ entry l. entry_number-same A early side point entry l 3 (omega arith)) mdq-same
        ∙ ap (λ entries. hour_lines capacity entries other_shipper (λ entry. entry_number d g side point entry 3)
        (λ entry. firm_mdq d g (other_shipper entry))) (many_rows-same A early side point)

  point-same : (row : ℕ) → row < count c Point → point_lines c f row ≡ point_lines d g row
  point-same row l =
      let here = number_same A Point refl (omega (arith, early)) row l in
      let side = number_at c f Point row 0 in
      let point = number_at c f Point row 1 in
      let capacity = number_at c f Point row 2 in
      rw (← here 0 (omega arith), ← here 1 (omega arith), ← here 2 (omega arith))
      (ap (λ lines. point_line side point capacity ++ lines) (entries-same side point capacity))

pub points_text-same : (day other : Day) (f g : ℕ → ℕ) → day.head ≡ other.head
    → Agree (table_place Excused) day.counts other.counts
    → ((place : ℕ) → place < table_start day.counts Excused → f place ≡ g place)
    → points_text day f ≡ points_text other g
points_text-same day other f g head agree same =
    let A : Alike (table_place Excused) day.counts other.counts f g = record { agree = agree; numbers = same } in
    ap₂ (λ line lines. line ++ lines) (ap (λ head. day_line head.day) head)
    (joined_same (count day.counts Point) _ _ (point-same A (omega arith))
    ∙ ap (λ rows. joined rows (point_lines other.counts g)) (count_same A Point refl (omega arith)))
