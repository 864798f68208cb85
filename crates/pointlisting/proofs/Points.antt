-- A row of the point table: its figures are within their bounds, and its part is the fields of the day's entries of the point.
use mathlib.Core.Path.{◌≡◌, refl, ap, ◌∙◌, subst}
use mathlib.Core.Bool.{true}
use mathlib.Core.List.{List, ◌++◌}
use Prim.Native.Nat.{ℕ, zero, suc, ◌+◌, ◌≤◌, ◌<◌}
use native.Mathlib.Omega.{arith}
use lib.ListN.{take, drop}
use denote.Ref.{Bor}
use Rattle.columns.specs.Column.{col}
use Rattle.text.specs.Text.{Laid}
use Rattle.text.proofs.Laying.{laid_both}
use Rattle.dayformat.specs.declared.day.Day.{Day}
use Rattle.dayformat.specs.declared.form.Tag.TheVariants.{Point}
use Rattle.dayformat.specs.Format.{body, column_in}
use Rattle.dayformat.specs.Layout.{count}
use Rattle.dayrows.specs.declared.Source.TheVariants.{File}
use Rattle.dayrows.specs.declared.Test.TheVariants as Test
use Rattle.dayrows.specs.Test.{in_bounds}
use Rattle.dayrows.specs.Private.{Sound}
use Rattle.dayrows.proofs.Within.{passes-bounded, within-bounds}
use Rattle.dayvalues.specs.Row.{number_at}
use Rattle.pointhours.specs.Parts.{part_lines}
use Rattle.pointentries.specs.Entries.{asked, part_start, part_long, Part}
use Rattle.entrylists.specs.PointRows.{point_fields}
use Rattle.entrylists.proofs.Parts.{parted}
use Rattle.pointlisting.specs.PointsText.{point_line, entry_lines, point_lines}
use Rattle.pointlisting.specs.Private.{Readable}
use Rattle.pointlisting.proofs.PartRead.{lines_are}

asked_now : (side : ℕ) (receipt delivery : Bor (List ℕ)) → (asked side receipt delivery).now ≡ asked side receipt.now delivery.now
asked_now zero receipt delivery = refl
asked_now (suc zero) receipt delivery = refl
asked_now (suc (suc side)) receipt delivery = refl

-- ---- its figures
module _ (day : Day) (numbers : List ℕ) (sound : Sound day numbers) (row : ℕ) (l : row < count day.counts Point) where
  abbrev figure : ℕ → ℕ
  figure place = number_at day.counts (col numbers) Point row place

  bounded : (place : ℕ) → place < 3 → in_bounds (column_in (body Point) place) (figure place) ≡ true
  bounded =
      (passes-bounded File day.counts (col numbers) Point row (sound.passes Point refl Test.Bounds row l)).1

  pub side-small : figure 0 ≤ 1
  unfolding column_in
  side-small = (within-bounds (column_in (body Point) 0) (figure 0) (bounded 0 (omega arith))).1

  pub point-small : (1 ≤ figure 1) × (figure 1 ≤ 65_535)
  unfolding column_in
  point-small = within-bounds (column_in (body Point) 1) (figure 1) (bounded 1 (omega arith))

-- ---- its part
module _ (day : Day) (numbers : List ℕ) (receipt delivery : Bor (List ℕ)) (R : Readable day numbers receipt.now delivery.now)
    (row : ℕ) (l : row < count day.counts Point) where
  S : Sound day numbers
  S = R.sound

  module _ (side point capacity : ℕ) (side_is : side ≡ number_at day.counts (col numbers) Point row 0)
      (point_is : point ≡ number_at day.counts (col numbers) Point row 1)
      (capacity_is : capacity ≡ number_at day.counts (col numbers) Point row 2) where
    module _ (part : Bor (List ℕ))
        (P : Part (asked side receipt delivery) part (part_start receipt.now delivery.now side point)
        (part_long receipt.now delivery.now side point)) where
      part_is : part.now ≡ point_fields day.counts (col numbers) side point
      part_is =
          P.bytes
          ∙ ap (λ list. take (part_long receipt.now delivery.now side point)
          (drop (part_start receipt.now delivery.now side point) list)) (asked_now side receipt delivery)
          ∙ rw (R.receipt_is, R.delivery_is) (parted day numbers S side point
          (omega (arith, side_is, side-small day numbers R.sound row l))
          (omega (arith, point_is, (point-small day numbers R.sound row l).0))).part

      pub point-laid : {text between after : List ℕ} {at m n : ℕ} → Laid (point_line side point capacity) text at m between
          → Laid (part_lines day.counts (col numbers) part.now capacity) between (at + m) n after
          → Laid (point_lines day.counts (col numbers) row) text at (m + n) after
      point-laid {text} {between} {after} {at} {m} {n} a b =
          let entry-text : List ℕ = entry_lines day.counts (col numbers) side point capacity in
          let same : part_lines day.counts (col numbers) part.now capacity ≡ entry-text =
          ap (λ list. part_lines day.counts (col numbers) list capacity) part_is ∙ lines_are day numbers S side point capacity
          in let whole : Laid (point_line side point capacity ++ entry-text) text at (m + n) after =
          laid_both a (subst (λ lines. Laid lines between (at + m) n after) same b)
          in rw (side_is, point_is, capacity_is) at whole
