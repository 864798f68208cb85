-- A file without a fault: its bytes are those of the day that is read, and the day is sound.
use mathlib.Core.Path.{◌≡◌, refl, ap, sym, ◌∙◌}
use mathlib.Core.Bool.{true}
use mathlib.Core.List.{List, append-nil}
use Prim.Native.Nat.{ℕ, zero, suc, ◌+◌, ◌≤◌, ◌<◌}
use native.Mathlib.Omega.{arith}
use Rattle.std.specs.Prelude.{Ok}
use lib.ListN.{take, drop}
use lib.Seq.{take_all, drop-drop}
use Rattle.columns.specs.Column.{col, listed, joined}
use Rattle.columns.specs.Sum.{sum}
use Rattle.bigendian.specs.Number.{AreBytes}
use Rattle.bigendian.specs.Row.{size, decode}
use Rattle.dayformat.specs.declared.form.Tag.{Tag}
use Rattle.dayformat.specs.declared.form.Tag.TheVariants.{Head}
use Rattle.dayformat.specs.Format.{body, many_tables, tag_at, table_place, column_in, widths, field_size, field}
use Rattle.dayformat.specs.Layout.{no_rows, row_start, numbers_in}
use Rattle.dayformat.specs.Private.{HasTable, Few, Agree}
use Rattle.dayformat.specs.DayBytes.{head_row, file_of}
use Rattle.dayformat.proofs.Every.{inside}
use Rattle.dayformat.proofs.Layouts.{few-none, none-none, no_numbers}
use Rattle.dayrows.specs.declared.Source.TheVariants.{File}
use Rattle.dayrows.specs.declared.Test.TheVariants as Test
use Rattle.dayrows.specs.Test.{in_bounds}
use Rattle.dayrows.specs.Private.{Sound}
use Rattle.dayrows.specs.Whole.{broken}
use Rattle.dayrows.proofs.Faults.{fault-none}
use Rattle.dayrows.proofs.Finding.{none-ok}
use Rattle.dayrows.proofs.Within.{passes-bounded, within-bounds}
use Rattle.dayrows.proofs.Breaking.{Whole, broken-none}
use Rattle.dayruns.specs.Run.{place_of, rows_of}
use Rattle.dayruns.proofs.Running.{field-none}
use Rattle.dayruns.proofs.Ending.{ended-none}
use Rattle.dayfile.specs.File.{head_fields, head_fault, head_of, headed, tables_to, tables, walked}
use Rattle.dayfile.specs.Answer.{day_of}
use Rattle.dayfile.proofs.FieldsThere.{field-there}
use Rattle.dayfile.proofs.Leading.{Leads}
use Rattle.dayfile.proofs.Rereading.{tabled-none, AllPass, Reread, reread_more}

-- ---- the head
pub head-numbers : (file : List ℕ) → decode (widths Head) (drop 3 file) ≡ head_row (head_of file)
unfolding decode listed column_in size
head-numbers file = rw (drop-drop 4 3 file, drop-drop 4 7 file)

module _ (file : List ℕ) (none : head_fault file ≡ Ok tt) where
  first : place_of (head_fields file) 0 ≡ 0
  first = omega arith

  head-whole : Whole file Head 0
  head-whole =
      broken-none file Head 0
      (ap (λ at. broken file Head at) (sym first)
      ∙ (field-none (head_fields file) (λ rows. col (rows_of (head_fields file) rows)) 0 none).0)

  head-place : (headed file).place ≡ field_size Head
  unfolding headed
  head-place = rw (none-ok none)

  reread_head : Reread file 0 (tables_to file 0)
  unfolding tables_to headed joined
  reread_head =
      record {
        few = few-none;
        long = sym no_numbers;
        none = none-none 0;
        bytes = λ are counts numbers a l.
            ap (λ many. take many file) head-place
            ∙ field-there file are Head 0 head-whole
            ∙ ap (field Head) (head-numbers file)
            ∙ sym (append-nil (field Head (head_row (head_of file))));
        pass = λ counts numbers a l place k. absurd (omega (arith, k));
      }

  -- its numbers are within their bounds
  head-bounded : (place : ℕ) → place < 3 → in_bounds (column_in (body Head) place) (col (head_row (head_of file)) place) ≡ true
  unfolding joined sum
  head-bounded place l =
      let row = ap (λ at. decode (widths Head) (drop (at + 3) file)) first ∙ head-numbers file in
      let at : row_start no_rows Head 0 + place ≡ place = omega arith in
      ap (λ list. in_bounds (column_in (body Head) place) (col list place)) (sym row)
      ∙ ap (λ k. in_bounds (column_in (body Head) place) (col (rows_of (head_fields file) 1) k)) (sym at)
      ∙ (passes-bounded File no_rows (col (rows_of (head_fields file) 1)) Head 0
      (fault-none File no_rows (col (rows_of (head_fields file) 1)) Head 0
      (field-none (head_fields file) (λ rows. col (rows_of (head_fields file) rows)) 0 none).1 Test.Bounds)
      ).1 place l

-- ---- the tables before a sound one are sound, and so is the head
module _ (file : List ℕ) where
  sound-before : (n : ℕ) → (tables_to file (suc n)).walk.found ≡ Ok tt → (tables_to file n).walk.found ≡ Ok tt
  unfolding tables_to
  sound-before n sound = (tabled-none file (tag_at n) (tables_to file n) sound).0

  sound-head : (n : ℕ) → (tables_to file n).walk.found ≡ Ok tt → head_fault file ≡ Ok tt
  unfolding tables_to headed
  sound-head zero sound = sound
  sound-head (suc n) sound = sound-head n (sound-before n sound)

  pub reread : (n : ℕ) → n ≤ many_tables → (tables_to file n).walk.found ≡ Ok tt → Reread file n (tables_to file n)
  unfolding tables_to
  reread zero l sound = reread_head file (sound-head 0 sound)
  reread (suc n) l sound = reread_more file n l (tables_to file n) (reread n (omega (arith, l)) (sound-before n sound)) sound

-- ---- the whole file
module _ (file : List ℕ) (none : (walked file).found ≡ Ok tt) where
  sound : (tables file).walk.found ≡ Ok tt
  sound = (ended-none file (tables file).walk none).0

  whole-file : Reread file many_tables (tables file)
  whole-file = reread file many_tables (omega arith) sound

  abbrev numbers : List ℕ
  numbers = (tables file).numbers

  whole : Leads numbers numbers
  whole = (omega arith, λ place l. refl)

  ended_is : walked file ≡ (tables file).walk
  ended_is = (ended-none file (tables file).walk none).2

  agrees : Agree many_tables (tables file).walk.counts (walked file).counts
  agrees place l = rw ended_is

  -- the bytes are those that the writer would write
  pub file_again : AreBytes file → file_of (day_of file) (col numbers) ≡ file
  unfolding file_of
  file_again are =
      sym
      (sym (take_all (tables file).walk.place file (ended-none file (tables file).walk none).1)
      ∙ whole-file.bytes are (walked file).counts numbers agrees whole)

  all_pass : (tag : Tag) → HasTable tag → AllPass (walked file).counts (col numbers) tag
  all_pass tag t = rw (← t) (whole-file.pass (walked file).counts numbers agrees whole (table_place tag) (inside tag))

  few-rows : Few (walked file).counts
  few-rows = rw ended_is whole-file.few

  -- and the day is sound, whatever the file is made of
  pub read-sound : Sound (day_of file) numbers
  unfolding column_in
  read-sound =
      record {
        long = whole-file.long ∙ ap (λ walk. numbers_in walk.counts) (sym ended_is);
        free_flow = (within-bounds (column_in (body Head) 1) _ (head-bounded file (sound-head file many_tables sound) 1 (omega arith))).1;
        compressor = (within-bounds (column_in (body Head) 2) _ (head-bounded file (sound-head file many_tables sound) 2 (omega arith))).1;
        few = few-rows;
        passes = all_pass;
      }

  -- its day number has 32 bits
  pub day-number : (day_of file).head.day ≤ 4_294_967_295
  unfolding column_in
  day-number = (within-bounds (column_in (body Head) 0) _ (head-bounded file (sound-head file many_tables sound) 0 (omega arith))).1
