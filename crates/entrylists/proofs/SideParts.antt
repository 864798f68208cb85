-- Of a sound day's entries of one side, from a row on, a point's part is the fields of all its entries.
use Rattle.std.specs.Prelude.{Ok}
use mathlib.Core.Path.{◌≡◌, ap, ap₂, sym, ◌∙◌}
use mathlib.Core.Bool.{Bool, true, false, not, true≢false}
use mathlib.Core.List.{List}
use Prim.Native.Nat.{ℕ, ◌+◌, ◌-◌, ◌*◌, ◌≤◌, ◌<◌}
use native.Mathlib.Decide.{dec_lt}
use native.Mathlib.Omega.{arith}
use borrow.Author.Tests.{eq-eqb, ne_eqb, eqb-true}
use lib.ListN.{length, take, drop}
use Rattle.columns.specs.Column.{col, joined}
use Rattle.columns.specs.First.{first}
use Rattle.columns.proofs.Firsts.{first-same, first_le}
use Rattle.dayformat.specs.declared.day.Day.{Day}
use Rattle.dayformat.specs.declared.form.Tag.TheVariants.{Entry}
use Rattle.dayformat.specs.Format.{field_size}
use Rattle.dayformat.specs.Layout.{count, row_start}
use Rattle.dayformat.proofs.Sizes.{length-row-field, entry-size}
use Rattle.dayrows.specs.Private.{Sound}
use Rattle.dayvalues.specs.Row.{number_at}
use Rattle.dayruns.specs.Run.{row_of}
use Rattle.pointentries.specs.Entries.{entries, list_check, is_of, first_entry, many_entries, start_in, long_in}
use Rattle.pointentries.proofs.EntryLists.{place_is}
use Rattle.pointentries.proofs.EntryParts.{part-every}
use Rattle.entrylists.specs.PointRows.{is_entry, first_row, many_rows, entry_field, point_fields}
use Rattle.entrylists.proofs.Segments.{whole-some, long-some, segment_alike, joined-part}
use Rattle.entrylists.proofs.SideRuns.{rows_are, point_is}

module _ (day : Day) (numbers : List ℕ) (S : Sound day numbers) where
  abbrev all : ℕ
  all = count day.counts Entry

  abbrev number : ℕ → ℕ → ℕ
  number row place = number_at day.counts (col numbers) Entry row place

  abbrev field_at : ℕ → List ℕ
  field_at row = entry_field day.counts (col numbers) row

  pub field-long : (row : ℕ) → length (field_at row) ≡ field_size Entry
  field-long row = length-row-field (col numbers) Entry (row_start day.counts Entry row)

  -- ---- the entries of one side, from a row on: the part of a point
  module _ (from many side : ℕ) (inside : from + many ≤ all) (sided : (i : ℕ) → i < many → number (from + i) 0 ≡ side)
      (other : (row : ℕ) → row < from → number row 0 ≡ side → ⊥)
      (past : (row : ℕ) → from + many ≤ row → row < all → number row 0 ≡ side → ⊥)
      (point : ℕ) where
    abbrev list : List ℕ
    list = joined many (λ i. field_at (from + i))

    abbrev asks : ℕ → Bool
    asks row = is_entry day.counts (col numbers) side point row

    asks_not : (row : ℕ) → (number row 0 ≡ side → ⊥) → asks row ≡ false
    unfolding is_entry
    asks_not row off = rw (ne_eqb (number row 0) side off)

    asks-point : (i : ℕ) → i < many → is_of list side point i ≡ asks (from + i)
    unfolding is_entry
    asks-point i l = rw (eq-eqb (number (from + i) 0) side (sided i l)) (point_is day numbers S from many side inside sided point i l)

    none_before : (row : ℕ) → row < from → asks row ≡ false
    none_before row l = asks_not row (other row l)

    none-past : (row : ℕ) → from + many ≤ row → row < all → asks row ≡ false
    none-past row h l = asks_not row (past row h l)

    abbrev start : ℕ
    start = first many (λ i. asks (from + i))

    abbrev long : ℕ
    long = first (many - start) (λ more. not (asks (from + (start + more))))

    first_is : first_entry list side point ≡ start
    first_is =
        ap (λ rows. first rows (is_of list side point)) (rows_are day numbers S from many side inside sided)
        ∙ first-same many (is_of list side point) (λ i. asks (from + i)) asks-point

    many_is : many_entries list side point ≡ long
    many_is =
        ap₂ (λ rows row. first (rows - row) (λ more. not (is_of list side point (row + more))))
        (rows_are day numbers S from many side inside sided) first_is
        ∙ first-same (many - start) _ _ (λ more l. ap not (asks-point (start + more) (omega (arith, l))))

    module _ (accepted : list_check list side point ≡ Ok tt) where
      start_is : start_in list side point ≡ start * field_size Entry
      unfolding start_in
      start_is = rw accepted (ap (λ row. row * field_size Entry) first_is)

      long_is : long_in list side point ≡ long * field_size Entry
      unfolding long_in
      long_is = rw accepted (ap (λ many. many * field_size Entry) many_is)

      part_is : take (long_in list side point) (drop (start_in list side point) list) ≡ joined long (λ k. field_at (from + (start + k)))
      part_is =
          ap₂ (λ long start. take long (drop start list)) long_is start_is
          ∙ joined-part (λ i. field_at (from + i)) (field_size Entry) (λ i. field-long (from + i)) start long many
          (omega (
            arith,
            first_le (λ i. asks (from + i)) many,
            first_le (λ more. not (asks (from + (start + more)))) (many - start),
          ))

      pub part_of_point : take (long_in list side point) (drop (start_in list side point) list)
          ≡ point_fields day.counts (col numbers) side point
      part_of_point =
          part_is
          ∙ segment_alike asks from many all inside none_before none-past field_at

      -- every entry of the point is among them
      module _ (row : ℕ) (l : row < all) (marked : asks row ≡ true) where
        not_before : from ≤ row
        not_before = by (dec_lt row from)
          where
            by : Dec (row < from) → from ≤ row
            by (yes k) = absurd (true≢false (sym marked ∙ none_before row k))
            by (no k) = omega (arith, k)

        not_past : row < from + many
        not_past = by (dec_lt row (from + many))
          where
            by : Dec (row < from + many) → row < from + many
            by (yes k) = k
            by (no k) = absurd (true≢false (sym marked ∙ none-past row (omega (arith, k)) l))

        abbrev near : ℕ
        near = row - from

        near-inside : near < many
        near-inside = omega (arith, not_before, not_past)

        near-point : col (row_of (entries list side) near) 1 ≡ point
        near-point =
            let at : from + near ≡ row = omega (arith, not_before) in
            eqb-true _ point (asks-point near near-inside ∙ ap asks at ∙ marked)

        near-part : (start ≤ near) × (near < start + long)
        near-part =
            let found = part-every list side point accepted near
            (omega (arith, near-inside, rows_are day numbers S from many side inside sided))
            near-point in
            let first = start_is ∙ ap (λ size. start * size) entry-size in
            let span = long_is ∙ ap (λ size. long * size) entry-size in (
              omega (arith, found.0, first, place_is list side near),
              omega (arith, found.1, first, span, place_is list side near, entry-size),
            )

        pub row_among : (first_row day.counts (col numbers) side point ≤ row)
            × (row < first_row day.counts (col numbers) side point + many_rows day.counts (col numbers) side point)
        row_among =
            let some : start < many = omega (arith, near-part.0, near-inside) in
            let first = whole-some asks from many all inside none_before none-past some in
            let span = long-some asks from many all inside none_before none-past some in
            (omega (arith, first, near-part.0, not_before), omega (arith, first, span, near-part.1, not_before))
