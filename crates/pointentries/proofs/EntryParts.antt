-- The part of a list that a point's entries are: where it starts, how long it is, what it holds, and that it is the only one.
use Rattle.std.specs.Prelude.{Ok, Err}
use mathlib.Core.Path.{◌≡◌, refl, ap, ◌∙◌}
use mathlib.Core.Bool.{Bool, not}
use mathlib.Core.List.{List}
use Prim.Native.Nat.{ℕ, zero, suc, ◌+◌, ◌-◌, ◌*◌, ◌/◌, ◌≤◌, ◌<◌}
use native.Mathlib.Decide.{dec_lt}
use native.Mathlib.Omega.{arith}
use borrow.Author.Tests.{eqb-true, eqb-false, not-true, not-false, ne_eqb}
use lib.Dec.{eqb}
use lib.ListN.{length, take, drop}
use denote.Ref.{Bor}
use Rattle.columns.specs.Column.{col}
use Rattle.columns.specs.First.{first}
use Rattle.columns.proofs.Firsts.{first-same, first_le, first-before, first-marked, first-none}
use Rattle.columns.proofs.Joined.{col-joined}
use Rattle.units.specs.declared.refusal.Refusal.{Refusal}
use Rattle.units.proofs.Determined.{determined}
use Rattle.dayformat.specs.declared.form.Tag.TheVariants as Tag
use Rattle.dayformat.specs.Format.{field_size}
use Rattle.dayformat.proofs.Sizes.{entry-size}
use Rattle.dayruns.specs.Run.{place_of, row_of, rows_of}
use Rattle.dayruns.proofs.Running.{length-row}
use Rattle.pointentries.specs.Entries.{entries, entry_rows, list_check, is_of, first_entry, many_entries, start_in, long_in, asked, entries_check, Part}
use Rattle.pointentries.proofs.EntryKeys.{points_ordered}
use Rattle.pointentries.proofs.EntryLists.{place_is, rows_few, SoundList, accepted-sound}
use Rattle.units.specs.Refusals.{Check}

-- ---- side 1 asks for the delivery list, any other for the receipt list
pub asked-delivery {ℓ} : {X : Type ℓ} (side : ℕ) (receipt delivery : X) → side ≡ 1 → asked side receipt delivery ≡ delivery
asked-delivery side receipt delivery e = ap (λ side. asked side receipt delivery) e

pub asked-receipt {ℓ} : {X : Type ℓ} (side : ℕ) (receipt delivery : X) → (side ≡ 1 → ⊥) → asked side receipt delivery ≡ receipt
asked-receipt zero receipt delivery other = refl
asked-receipt (suc zero) receipt delivery other = absurd (other refl)
asked-receipt (suc (suc side)) receipt delivery other = refl

-- ---- a part from a byte up to another
pub part-from : {list part : Bor (List ℕ)} {start long : ℕ} (from to : ℕ) → from ≡ start → to - from ≡ long
    → part.now ≡ take (to - from) (drop from list.now) → part.ref_ptr.0 ≡ list.ref_ptr.0 → part.ref_ptr.1 ≡ list.ref_ptr.1 + from
    → Part list part start long
part-from from to e h bytes block starts = record { bytes = rw (← e, ← h) bytes; block = block; starts = rw (← e) starts }

module _ (list : List ℕ) (side point : ℕ) where
  abbrev start : ℕ
  start = start_in list side point

  abbrev long : ℕ
  long = long_in list side point

  -- ---- a faulty list has the empty part at its end
  module _ {refusal : Refusal} (refused : list_check list side point ≡ Err refusal) where
    pub refused-start : length list ≡ start
    unfolding start_in
    refused-start = rw refused

    pub refused-long : length list - length list ≡ long
    unfolding long_in
    refused-long = rw refused (omega arith)

  -- ---- an accepted list has the run of the point's rows, which the searches among its numbers find
  abbrev rows : ℕ
  rows = entry_rows list side

  abbrev row_point : ℕ → ℕ
  row_point row = col (row_of (entries list side) row) 1

  abbrev asks : ℕ → Bool
  asks row = is_of list side point row

  abbrev first_row : ℕ
  first_row = first_entry list side point

  -- the rows from the first on that are not the point's
  abbrev leaves : ℕ → Bool
  leaves more = not (asks (first_row + more))

  abbrev many : ℕ
  many = many_entries list side point

  module _ (accepted : list_check list side point ≡ Ok tt) where
    sound : SoundList list side
    sound = accepted-sound list side point accepted

    rows_are : length list / 12 ≡ rows
    rows_are = omega (arith, sound.whole)

    pub few-rows : length list / 12 ≤ 512
    few-rows = omega (arith, rows_are, rows_few list side)

    start_is : start ≡ first_row * 12
    unfolding start_in
    start_is = rw accepted (ap (λ size. first_row * size) entry-size)

    long_is : long ≡ many * 12
    unfolding long_in
    long_is = rw accepted (ap (λ size. many * size) entry-size)

    module _ {numbers : ℕ → ℕ} (holds : numbers ≡ col (rows_of (entries list side) rows)) where
      found_at : (row : ℕ) → row < rows → eqb (numbers (row * 4 + 1)) point ≡ asks row
      found_at row l =
          ap (λ numbers. eqb (numbers (row * 4 + 1)) point) holds
          ∙ ap (λ found. eqb found point)
          (col-joined (row_of (entries list side)) 4 (length-row (entries list side)) rows row 1 l (omega arith))

      module _ {row : ℕ} (begins : row ≡ first (length list / 12) (λ row. eqb (numbers (row * 4 + 1)) point)) where
        row_is : row ≡ first_row
        row_is =
            begins
            ∙ ap (λ rows. first rows (λ row. eqb (numbers (row * 4 + 1)) point)) rows_are
            ∙ first-same rows _ _ found_at

        pub accepted-start : row * 12 ≡ start
        accepted-start = omega (arith, row_is, start_is)

        pub accepted-long : {more : ℕ}
            → more ≡ first (length list / 12 - row) (λ more. not (eqb (numbers ((row + more) * 4 + 1)) point))
            → (row + more) * 12 - row * 12 ≡ long
        accepted-long {more} e =
            let same : more ≡ many =
            e
            ∙ rw (rows_are, ← row_is) (first-same (rows - row) _ _ (λ more l. ap not (found_at (row + more) (omega (arith, l)))))
            in omega (arith, same, long_is)

    -- ---- keys rise, so the run has every row of the point
    first-inside : first_row ≤ rows
    first-inside = first_le asks rows

    run_inside : first_row + many ≤ rows
    run_inside = omega (arith, first-inside, first_le leaves (rows - first_row))

    run_only : (row : ℕ) → first_row ≤ row → row < first_row + many → row_point row ≡ point
    run_only row h l =
        let more : row ≡ first_row + (row - first_row) = omega (arith, h) in
        let stays = first-before leaves (rows - first_row) (row - first_row) (omega (arith, h, l)) in
        ap row_point more ∙ eqb-true _ point (not-false _ stays)

    none_before : (row : ℕ) → row_point row ≡ point → first_row ≤ row
    none_before row e = by (dec_lt row first_row)
      where
        by : Dec (row < first_row) → first_row ≤ row
        by (yes l) = absurd (eqb-false (row_point row) point (first-before asks rows row l) e)
        by (no h) = omega (arith, h)

    none_after : (row : ℕ) → row < rows → row_point row ≡ point → row < first_row + many
    none_after row l e = by (dec_lt row (first_row + many))
      where
        by : Dec (row < first_row + many) → row < first_row + many
        by (yes h) = h
        by (no h) =
            let past = first_row + many in
            let here = eqb-true (row_point first_row) point (first-marked asks rows (omega (arith, none_before row e, l))) in
            let left = first-marked leaves (rows - first_row) (omega (arith, h, l)) in
            let up = points_ordered list side first_row past (omega arith) (omega (arith, h, l)) in
            let on = points_ordered list side past row (omega (arith, h)) l in
            absurd (eqb-false (row_point past) point (not-true _ left) (omega (arith, here, up, on, e)))

    -- ---- of an accepted list the part has every entry of the point, and none other
    pub part-every : (row : ℕ) → row < rows → row_point row ≡ point
        → (start ≤ place_of (entries list side) row) × (place_of (entries list side) row + field_size Tag.Entry ≤ start + long)
    part-every row l e =
        let from = none_before row e in
        let to = none_after row l e in
        (omega (arith, start_is, place_is list side row), omega (arith, start_is, long_is, place_is list side row, entry-size))

    pub part_only : (row : ℕ) → start ≤ place_of (entries list side) row → place_of (entries list side) row < start + long
        → row_point row ≡ point
    part_only row h l =
        run_only row (omega (arith, h, start_is, place_is list side row)) (omega (arith, l, start_is, long_is, place_is list side row))

    -- one that lacks the point has the empty part at its end
    pub part_lacking : ((row : ℕ) → row < rows → row_point row ≡ point → ⊥) → (start ≡ length list) × (long ≡ 0)
    part_lacking lacks =
        let last : first_row ≡ rows = first-none asks rows (λ row l. ne_eqb (row_point row) point (lacks row l)) in
        (omega (arith, start_is, last, sound.whole), omega (arith, long_is, last, run_inside))

    accepted-within : start + long ≤ length list
    accepted-within = omega (arith, start_is, long_is, run_inside, sound.whole)

  -- ---- both ends of the part lie within the list
  pub part-within : start + long ≤ length list
  part-within = by (list_check list side point) refl
    where
      by : (found : Check) → list_check list side point ≡ found → start + long ≤ length list
      by (Ok _) e = accepted-within e
      by (Err refusal) e = omega (arith, refused-start e, refused-long e)

-- ---- two answers that meet a statement are equal: two parts in their bytes and in where they stand
pub part_determined : {list p₁ p₂ : Bor (List ℕ)} {start long : ℕ} → Part list p₁ start long → Part list p₂ start long
    → (p₁.now ≡ p₂.now) × (p₁.ref_ptr.0 ≡ p₂.ref_ptr.0) × (p₁.ref_ptr.1 ≡ p₂.ref_ptr.1)
part_determined a b = (
  determined a.bytes b.bytes,
  determined a.block b.block,
  determined a.starts b.starts,
)

pub check_determined : (receipt delivery : List ℕ) (side point : ℕ) {c₁ c₂ : Check}
    → c₁ ≡ entries_check receipt delivery side point → c₂ ≡ entries_check receipt delivery side point → c₁ ≡ c₂
check_determined receipt delivery side point e h = determined e h
