-- The fields of a point's entries, read back: how many there are, their shippers and entitlements; so their lines are the point's.
use Rattle.std.specs.Prelude.{Ok, Err}
use mathlib.Core.Path.{◌≡◌, refl, ap, ap₂, sym, ◌∙◌}
use mathlib.Core.List.{List, [], ◌∷◌}
use Prim.Native.Nat.{ℕ, min, ◌+◌, ◌*◌, ◌≤◌, ◌<◌}
use native.Mathlib.Omega.{arith}
use lib.ListN.{length, take, drop}
use lib.Seq.{drop-drop}
use Rattle.columns.specs.Column.{col, listed}
use Rattle.columns.proofs.Lists.{listed_same}
use Rattle.columns.proofs.Joined.{joined_same}
use Rattle.bigendian.specs.Number.{value}
use Rattle.bigendian.specs.Row.{decode}
use Rattle.pointshares.specs.Share.{hour_shares}
use Rattle.pointshares.specs.Answer.{hour_check}
use Rattle.lines.specs.Line.{line, decimals}
use Rattle.dayformat.specs.declared.day.Day.{Day}
use Rattle.dayformat.specs.declared.form.Tag.TheVariants.{Entry}
use Rattle.dayformat.specs.Format.{column_in}
use Rattle.dayformat.specs.Layout.{count}
use Rattle.dayformat.proofs.Sizes.{entry-size}
use Rattle.dayrows.specs.Private.{Sound}
use Rattle.pointhours.specs.HourText.{share_lines, hour_lines, firm_mdq}
use Rattle.pointhours.specs.Parts.{most_number, entries_in, shipper_in, entitlement_in, mdq_in, part_lines}
use Rattle.pointhours.proofs.EntryPlaces.{shipper-here, entitlement-here}
use Rattle.dayruns.specs.Run.{place_of, row_of}
use Rattle.pointentries.specs.Entries.{entries}
use Rattle.pointentries.proofs.EntryLists.{place_is}
use Rattle.entrylists.specs.PointRows.{first_row, many_rows, entry_number, point_fields}
use Rattle.entrylists.proofs.EntryRows.{rows_inside}
use Rattle.entrylists.proofs.SideRuns.{number-again, list-long}
use Rattle.pointlisting.specs.PointsText.{entry_lines}
use Rattle.pointlisting.proofs.FirmMdqs.{firm-bounded}
use Rattle.units.specs.Refusals.{Check}

-- ---- columns that agree on the entries make one text
lines_same : (found : Check) (many : ℕ) (shipper other share : ℕ → ℕ) → ((entry : ℕ) → entry < many → shipper entry ≡ other entry)
    → share_lines found many shipper share ≡ share_lines found many other share
lines_same (Ok _) many shipper other share same =
    joined_same many _ _ (λ entry l. ap (λ shipper. line (decimals (shipper ∷ share entry ∷ []))) (same entry l))
lines_same (Err refusal) many shipper other share same = refl

module _ (capacity many : ℕ) (shipper entitlement mdq shipper' entitlement' mdq' : ℕ → ℕ)
    (shippers : (entry : ℕ) → entry < many → shipper entry ≡ shipper' entry)
    (entitlements : (entry : ℕ) → entry < many → entitlement entry ≡ entitlement' entry)
    (mdqs : (entry : ℕ) → entry < many → mdq entry ≡ mdq' entry) where
  pub hour-same : hour_lines capacity many shipper entitlement mdq ≡ hour_lines capacity many shipper' entitlement' mdq'
  hour-same =
      ap₂ (λ entitlements mdqs.
      share_lines (hour_check capacity entitlements mdqs (length entitlements)) many shipper (hour_shares entitlements mdqs capacity))
      (listed_same many entitlement entitlement' entitlements) (listed_same many mdq mdq' mdqs)
      ∙ lines_same (hour_check capacity (listed many entitlement') (listed many mdq') (length (listed many entitlement'))) many
      shipper shipper' (hour_shares (listed many entitlement') (listed many mdq') capacity) shippers

-- ---- where an entry's shipper and entitlement stand in its field
module _ (list : List ℕ) (entry : ℕ) where
  abbrev place : ℕ
  place = place_of (entries list 0) entry

  behind-point : drop 2 (drop 1 (drop (place + 3) list)) ≡ drop (entry * 12 + 6) list
  behind-point =
      let at : place + 3 + 1 + 2 ≡ entry * 12 + 6 = omega (arith, place_is list 0 entry) in
      ap (drop 2) (drop-drop 1 (place + 3) list) ∙ drop-drop 2 (place + 3 + 1) list ∙ ap (λ at. drop at list) at

  behind-shipper : drop 2 (drop 2 (drop 1 (drop (place + 3) list))) ≡ drop (entry * 12 + 8) list
  behind-shipper =
      let at : entry * 12 + 6 + 2 ≡ entry * 12 + 8 = omega arith in
      ap (drop 2) behind-point ∙ drop-drop 2 (entry * 12 + 6) list ∙ ap (λ at. drop at list) at

  shipper-there : col (row_of (entries list 0) entry) 2 ≡ shipper_in list entry
  unfolding decode listed column_in
  shipper-there = ap (λ list. value (take 2 list)) behind-point ∙ shipper-here list entry

  entitlement-there : col (row_of (entries list 0) entry) 3 ≡ entitlement_in list entry
  unfolding decode listed column_in
  entitlement-there = ap (λ list. value (take 4 list)) behind-shipper ∙ entitlement-here list entry

-- ---- a point's part
module _ (day : Day) (numbers : List ℕ) (S : Sound day numbers) (side point : ℕ) where
  abbrev many : ℕ
  many = many_rows day.counts (col numbers) side point

  abbrev from : ℕ
  from = first_row day.counts (col numbers) side point

  abbrev part : List ℕ
  part = point_fields day.counts (col numbers) side point

  inside : from + many ≤ count day.counts Entry
  inside = rows_inside day.counts (col numbers) side point

  many_in : entries_in part ≡ many
  many_in = rw entry-size (omega (arith, list-long day numbers S from many 0 inside, place_is part 0 many, inside, S.few Entry))

  shipper_is : (entry : ℕ) → entry < many → shipper_in part entry ≡ entry_number day.counts (col numbers) side point entry 2
  shipper_is entry l = sym (shipper-there part entry) ∙ number-again day numbers S from many 0 inside entry 2 l (omega arith)

  entitlement_is : (entry : ℕ) → entry < many → entitlement_in part entry ≡ entry_number day.counts (col numbers) side point entry 3
  entitlement_is entry l = sym (entitlement-there part entry) ∙ number-again day numbers S from many 0 inside entry 3 l (omega arith)

  abbrev shipper : ℕ → ℕ
  shipper entry = entry_number day.counts (col numbers) side point entry 2

  -- a firm MDQ is far below what a u32 holds
  mdq_is : (entry : ℕ) → entry < many
      → mdq_in day.counts (col numbers) part entry ≡ firm_mdq day.counts (col numbers) (shipper entry)
  mdq_is entry l =
      ap (λ shipper. min (firm_mdq day.counts (col numbers) shipper) most_number) (shipper_is entry l)
      ∙ omega (arith, firm-bounded day numbers S (from + entry) (omega (arith, inside, l)))

  pub lines_are : (capacity : ℕ)
      → part_lines day.counts (col numbers) part capacity ≡ entry_lines day.counts (col numbers) side point capacity
  lines_are capacity =
      ap (λ many. hour_lines capacity many (shipper_in part) (entitlement_in part) (mdq_in day.counts (col numbers) part)) many_in
      ∙ hour-same capacity many (shipper_in part) (entitlement_in part) (mdq_in day.counts (col numbers) part) shipper
      (λ entry. entry_number day.counts (col numbers) side point entry 3)
      (λ entry. firm_mdq day.counts (col numbers) (shipper entry)) shipper_is entitlement_is mdq_is
