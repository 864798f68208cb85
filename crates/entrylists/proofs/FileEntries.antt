-- The tag 4 bytes of an accepted file are the fields of the day's entries, so a point's part is its entries' fields there.
use Rattle.std.specs.Prelude.{Ok}
use mathlib.Core.Path.{◌≡◌, ap, sym, ◌∙◌}
use mathlib.Core.List.{List, ◌++◌, append_assoc}
use Prim.Native.Nat.{ℕ, suc, ◌+◌, ◌-◌, ◌≤◌, ◌<◌}
use native.Mathlib.Omega.{arith}
use lib.ListN.{length, take, drop, length-append}
use lib.Seq.{take_at, drop_at}
use Rattle.columns.specs.Column.{col, joined}
use Rattle.columns.proofs.Joined.{joined-split}
use Rattle.bigendian.specs.Number.{AreBytes}
use Rattle.dayformat.specs.declared.day.Day.{Day}
use Rattle.dayformat.specs.declared.form.Tag.TheVariants.{Head, Entry}
use Rattle.dayformat.specs.Layout.{run_size}
use Rattle.dayformat.specs.Format.{many_tables, tag_at, table_place, field}
use Rattle.dayformat.specs.DayBytes.{head_row, fields, file_of}
use Rattle.dayformat.proofs.Sizes.{length-tables, length_fields}
use Rattle.dayfile.specs.File.{tables, walked}
use Rattle.dayfile.specs.Answer.{day_of}
use Rattle.dayfile.proofs.FileAgain.{file_again, read-sound}
use Rattle.entrylists.specs.SideLists.{entries_start, entry_bytes, Parted}
use Rattle.entrylists.proofs.Parts.{parted}

module _ (day : Day) (numbers : ℕ → ℕ) where
  abbrev part : ℕ → List ℕ
  part place = fields day.counts numbers (tag_at place)

  -- the file cut before and behind its entries
  abbrev ahead : List ℕ
  ahead = field Head (head_row day.head) ++ joined (table_place Entry) part

  abbrev behind : List ℕ
  behind = joined (many_tables - suc (table_place Entry)) (λ more. part (table_place Entry + suc more))

  cut : file_of day numbers ≡ ahead ++ (fields day.counts numbers Entry ++ behind)
  unfolding file_of
  cut =
      ap (λ list. field Head (head_row day.head) ++ list) (joined-split part (table_place Entry) (many_tables - suc (table_place Entry)))
      ∙ sym (append_assoc (field Head (head_row day.head)) (joined (table_place Entry) part) (part (table_place Entry) ++ behind))

  written-entries : entry_bytes day.counts (file_of day numbers) ≡ fields day.counts numbers Entry
  written-entries =
      ap (λ file. take (run_size day.counts Entry) (drop (entries_start day.counts) file)) cut
      ∙ ap (take (run_size day.counts Entry))
      (drop_at ahead (fields day.counts numbers Entry ++ behind) (entries_start day.counts)
      (length-tables day numbers (table_place Entry)))
      ∙ take_at (fields day.counts numbers Entry) behind (run_size day.counts Entry) (length_fields numbers Entry day.counts)

  entries-within : entries_start day.counts + run_size day.counts Entry ≤ length (file_of day numbers)
  entries-within =
      omega (
        arith,
        ap length cut,
        length-append ahead (fields day.counts numbers Entry ++ behind),
        length-append (fields day.counts numbers Entry) behind,
        length-tables day numbers (table_place Entry),
        length_fields numbers Entry day.counts,
      )

module _ (file : List ℕ) (are : AreBytes file) (none : (walked file).found ≡ Ok tt) where
  pub entries-are : entry_bytes (walked file).counts file ≡ fields (walked file).counts (col (tables file).numbers) Entry
  entries-are =
      ap (entry_bytes (walked file).counts) (sym (file_again file none are)) ∙ written-entries (day_of file) (col (tables file).numbers)

  pub entries-inside : entries_start (walked file).counts + run_size (walked file).counts Entry ≤ length file
  entries-inside = omega (arith, ap length (sym (file_again file none are)), entries-within (day_of file) (col (tables file).numbers))

  pub file_parted : (side point : ℕ) → side ≤ 1 → 0 < point
      → Parted (walked file).counts (col (tables file).numbers) (entry_bytes (walked file).counts file) side point
  file_parted side point h some =
      rw entries-are
      (parted (day_of file) (tables file).numbers (read-sound file none)
      side point h some)
