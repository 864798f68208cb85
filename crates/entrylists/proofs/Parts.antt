-- A sound day's tag 4 fields, parted where side 1 begins: both lists are accepted, and a point's part is the fields of all its entries.
use mathlib.Core.Path.{◌≡◌, ap, ◌∙◌}
use mathlib.Core.List.{List}
use Prim.Native.Nat.{ℕ, zero, suc, ◌+◌, ◌-◌, ◌*◌, ◌/◌, ◌≤◌, ◌<◌}
use native.Mathlib.Nat.{zero-add}
use native.Mathlib.Omega.{arith}
use lib.Dec.{eqb}
use lib.ListN.{length, take, drop}
use Rattle.columns.specs.Column.{col, listed, joined}
use Rattle.columns.specs.First.{first}
use Rattle.columns.proofs.Firsts.{first-same}
use Rattle.columns.proofs.Joined.{length-joined, col-joined}
use Rattle.bigendian.specs.Number.{bytes}
use Rattle.bigendian.specs.Row.{encode}
use Rattle.dayformat.specs.declared.day.Day.{Day}
use Rattle.dayformat.specs.declared.form.Tag.TheVariants.{Entry}
use Rattle.dayformat.specs.Format.{column_in, header, field_size}
use Rattle.dayformat.specs.Layout.{count}
use Rattle.dayformat.specs.DayBytes.{fields}
use Rattle.dayformat.proofs.Sizes.{entry-size}
use Rattle.dayrows.specs.Private.{Sound}
use Rattle.dayvalues.specs.Row.{number_at}
use Rattle.entrylists.specs.PointRows.{entry_field}
use Rattle.entrylists.specs.SideLists.{first_delivery, receipt_list, delivery_list, Parted}
use Rattle.entrylists.proofs.Segments.{joined-front, joined-behind}
use Rattle.entrylists.proofs.Sides.{receipts, receipts-inside, receipt-side, delivery-side, side-small}
use Rattle.entrylists.proofs.SideRuns.{list-accepted}
use Rattle.entrylists.proofs.SideParts.{field-long, part_of_point, row_among}

module _ (day : Day) (numbers : List ℕ) (S : Sound day numbers) where
  abbrev all : ℕ
  all = count day.counts Entry

  abbrev number : ℕ → ℕ → ℕ
  number row place = number_at day.counts (col numbers) Entry row place

  abbrev field_at : ℕ → List ℕ
  field_at row = entry_field day.counts (col numbers) row

  -- ---- where side 1 begins
  abbrev whole : List ℕ
  whole = fields day.counts (col numbers) Entry

  fourth-byte : (row : ℕ) → number row 0 ≤ 1 → col (field_at row) 3 ≡ number row 0
  unfolding bytes encode listed column_in
  fourth-byte row h = omega (arith, h)

  side-byte : (row : ℕ) → row < all → col whole (row * field_size Entry + header) ≡ number row 0
  side-byte row l =
      col-joined field_at (field_size Entry) (field-long day numbers S) all row header l (omega (arith, entry-size))
      ∙ fourth-byte row (side-small day numbers S row l)

  rows-there : length whole / field_size Entry ≡ all
  rows-there = rw entry-size (omega (arith, length-joined field_at 12 (λ row. field-long day numbers S row ∙ entry-size) all))

  begins : first_delivery whole ≡ receipts day numbers S * field_size Entry
  begins =
      ap (λ rows. rows * field_size Entry)
      (ap (λ rows. first rows (λ row. eqb (col whole (row * field_size Entry + header)) 1)) rows-there
      ∙ first-same all _ _ (λ row l. ap (λ side. eqb side 1) (side-byte row l)))

  abbrev receipt_many : ℕ
  receipt_many = receipts day numbers S

  receipt_is : receipt_list whole ≡ joined receipt_many (λ i. field_at (0 + i))
  receipt_is =
      ap (λ at. take at whole) begins
      ∙ joined-front field_at (field_size Entry) (field-long day numbers S) receipt_many all (receipts-inside day numbers S)
      ∙ simp zero-add

  delivery_is : delivery_list whole ≡ joined (all - receipt_many) (λ i. field_at (receipt_many + i))
  delivery_is =
      ap (λ at. drop at whole) begins
      ∙ joined-behind field_at (field_size Entry) (field-long day numbers S) receipt_many all (receipts-inside day numbers S)

  -- ---- both lists
  module _ (point : ℕ) (some : 0 < point) where
    receipt-sided : (i : ℕ) → i < receipt_many → number (0 + i) 0 ≡ 0
    receipt-sided i l = rw zero-add (receipt-side day numbers S i l)

    receipt_parted : Parted day.counts (col numbers) whole 0 point
    receipt_parted =
        let inside : 0 + receipt_many ≤ all = omega (arith, receipts-inside day numbers S) in
        let accepted = list-accepted day numbers S 0 receipt_many 0 inside receipt-sided point (omega arith) some in
        record {
          accepted = rw receipt_is accepted;
          part =
              rw receipt_is
              (part_of_point day numbers S 0 receipt_many 0 inside receipt-sided (λ row l e. omega (arith, l))
              (λ row h l e. omega (arith, e, delivery-side day numbers S row (omega (arith, h)) l)) point accepted);
          every =
              row_among day numbers S 0 receipt_many 0 inside receipt-sided (λ row l e. omega (arith, l))
              (λ row h l e. omega (arith, e, delivery-side day numbers S row (omega (arith, h)) l)) point accepted;
        }

    delivery_parted : Parted day.counts (col numbers) whole 1 point
    delivery_parted =
        let inside : receipt_many + (all - receipt_many) ≤ all = omega (arith, receipts-inside day numbers S) in
        let sided : (i : ℕ) → i < all - receipt_many → number (receipt_many + i) 0 ≡ 1 =
        λ i l. delivery-side day numbers S (receipt_many + i) (omega arith) (omega (arith, l)) in
        let accepted = list-accepted day numbers S receipt_many (all - receipt_many) 1 inside sided point (omega arith) some in
        record {
          accepted = rw delivery_is accepted;
          part =
              rw delivery_is
              (part_of_point day numbers S receipt_many (all - receipt_many) 1 inside sided
              (λ row l e. omega (arith, e, receipt-side day numbers S row l))
              (λ row h l e. omega (arith, h, l)) point accepted);
          every =
              row_among day numbers S receipt_many (all - receipt_many) 1 inside sided
              (λ row l e. omega (arith, e, receipt-side day numbers S row l))
              (λ row h l e. omega (arith, h, l)) point accepted;
        }

  pub parted : (side point : ℕ) → side ≤ 1 → 0 < point → Parted day.counts (col numbers) whole side point
  parted zero point h some = receipt_parted point some
  parted (suc zero) point h some = delivery_parted point some
  parted (suc (suc side)) point h some = absurd (omega (arith, h))
