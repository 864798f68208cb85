-- A file's tag 4 bytes, cut out and parted where side 1 begins, are the lists that a day's points are read from.
use Rattle.std.specs.Prelude.{Ok}
use mathlib.Core.Path.{◌≡◌, refl, ap, ap₂, sym, ◌∙◌}
use mathlib.Core.List.{List}
use Prim.Native.Nat.{ℕ, ◌+◌, ◌-◌, ◌≤◌}
use native.Mathlib.Omega.{arith}
use lib.ListN.{length, take, drop, length-drop}
use lib.Seq.{take_all, length-take-le}
use Rattle.columns.specs.Column.{col}
use Rattle.bigendian.specs.Number.{AreBytes}
use Rattle.dayformat.specs.declared.day.Day.{Day}
use Rattle.dayformat.specs.declared.form.Tag.TheVariants.{Entry}
use Rattle.dayformat.specs.Layout.{numbers_in, run_size}
use Rattle.dayformat.specs.DayBytes.{fields}
use Rattle.dayfile.specs.File.{walked}
use Rattle.dayfile.specs.Answer.{ReadingAnswered, Reads}
use Rattle.dayfile.proofs.FileAgain.{read-sound}
use Rattle.dayfile.proofs.Told.{taken-numbers, reads_day}
use Rattle.entrylists.specs.SideLists.{entries_start, entry_bytes, first_delivery, receipt_list, delivery_list}
use Rattle.entrylists.proofs.FileEntries.{entries-are, entries-inside}
use Rattle.entrylists.proofs.Splitting.{split-within}
use Rattle.pointlisting.specs.Private.{Readable}

-- what the reader has answered is read out of the file
pub reads_part : (file lent numbers : List ℕ) (day : Day) → ReadingAnswered file lent numbers (Ok day)
    → Reads file day (take (numbers_in day.counts) numbers)
reads_part file lent numbers day R =
    rw (taken-numbers file lent numbers (Ok day) R refl) (reads_day file lent numbers (Ok day) R refl)

module _ (file : List ℕ) (are : AreBytes file) (day : Day) (numbers : List ℕ) (R : Reads file day numbers) {start end : ℕ}
    (start_is : start ≡ entries_start day.counts) (end_is : end ≡ entries_start day.counts + run_size day.counts Entry) where
  counts-are : (walked file).counts ≡ day.counts
  counts-are = ap (λ day. day.counts) R.day_is

  pub start-before : start ≤ end
  start-before = omega (arith, start_is, end_is)

  pub end-inside : end ≤ length file
  end-inside =
      let inside = entries-inside file are R.accepted in
      let here : entries_start day.counts + run_size day.counts Entry ≤ length file = rw counts-are at inside in
      omega (arith, end_is, here)

  abbrev entries : List ℕ
  entries = take (end - start) (drop start file)

  entries_is : entries ≡ fields day.counts (col numbers) Entry
  entries_is =
      let long : end - start ≡ run_size day.counts Entry = omega (arith, start_is, end_is) in
      ap₂ (λ long start. take long (drop start file)) long start_is
      ∙ ap (λ counts. entry_bytes counts file) (sym counts-are)
      ∙ entries-are file are R.accepted
      ∙ ap₂ (λ counts numbers. fields counts (col numbers) Entry) counts-are R.numbers_are

  module _ {split : ℕ} (split_is : split ≡ first_delivery entries) where
    pub split-inside : split ≤ length entries
    split-inside = omega (arith, split_is, split-within entries)

    pub split-long : split ≡ length (take split entries)
    split-long = sym (length-take-le split entries split-inside)

    pub readable : Readable day numbers (take split entries) (take (length entries - split) (drop split entries))
    readable =
        record {
          sound = rw (← R.day_is, ← R.numbers_are) (read-sound file R.accepted);
          receipt_is = ap (λ split. take split entries) split_is ∙ ap receipt_list entries_is;
          delivery_is =
              take_all (length entries - split) (drop split entries) (omega (arith, length-drop split entries))
              ∙ ap (λ split. drop split entries) split_is
              ∙ ap delivery_list entries_is;
        }
