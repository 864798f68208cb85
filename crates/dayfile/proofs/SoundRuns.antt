-- A run without a fault: its bytes are its rows' fields, and each row passes every test among the day's numbers.
use mathlib.Core.Path.{◌≡◌, ap, sym, ◌∙◌}
use mathlib.Core.Bool.{true}
use mathlib.Core.List.{List, ◌++◌}
use Prim.Native.Nat.{ℕ, suc, ◌*◌, ◌<◌}
use native.Mathlib.Omega.{arith}
use lib.ListN.{length, take, drop, length-append}
use lib.Seq.{drop-drop}
use Rattle.std.specs.Prelude.{Ok}
use Rattle.columns.specs.Column.{col, joined}
use Rattle.columns.proofs.Firsts.{first-before}
use Rattle.columns.proofs.Joined.{joined_same, joined_parts, length-joined}
use Rattle.bigendian.specs.Number.{AreBytes}
use Rattle.dayformat.specs.declared.layout.Counts.{Counts}
use Rattle.dayformat.specs.Format.{table_place, field_size, form, field}
use Rattle.dayformat.specs.Layout.{table_start, row_start}
use Rattle.dayformat.specs.Private.{Agree}
use Rattle.dayrows.specs.declared.Test.{Test}
use Rattle.dayrows.specs.Test.{passes}
use Rattle.dayrows.proofs.Faults.{fault-none}
use Rattle.dayrows.proofs.Same.{passes_same}
use Rattle.dayrows.proofs.Breaking.{Whole, broken-none}
use Rattle.dayruns.specs.Run.{Fields, place_of, row_of, rows_of, field_fault, stops, run_rows}
use Rattle.dayruns.proofs.Running.{field-none, goes_sound, length-row}
use Rattle.dayfile.proofs.FieldsThere.{field-there}
use Rattle.dayfile.proofs.Leading.{Leads, leads_trans, leads-rows}

module _ (F : Fields) (read : ℕ → ℕ → ℕ) where
  -- every field before the run's end is sound
  pub sound-field : (row : ℕ) → row < run_rows F read → field_fault F read row ≡ Ok tt
  sound-field row l = goes_sound F read row (first-before (stops F read) (form F.tag).most row l)

  pub sound-whole : (row : ℕ) → row < run_rows F read → Whole F.file F.tag (place_of F row)
  sound-whole row l = broken-none F.file F.tag (place_of F row) (field-none F read row (sound-field row l)).0

  -- ---- the bytes of the run
  pub run-bytes : AreBytes F.file
      → take (run_rows F read * field_size F.tag) (drop F.at F.file) ≡ joined (run_rows F read)
      (λ row. field F.tag (row_of F row))
  run-bytes are =
      sym (joined_parts (run_rows F read) (field_size F.tag) (drop F.at F.file))
      ∙ joined_same (run_rows F read) (λ row. take (field_size F.tag) (drop (row * field_size F.tag) (drop F.at F.file)))
      (λ row. field F.tag (row_of F row))
      (λ row l.
      ap (take (field_size F.tag)) (drop-drop (row * field_size F.tag) F.at F.file)
      ∙ field-there F.file are F.tag (place_of F row) (sound-whole row l))

-- ---- the tests of a row, among the numbers read so far and among all
module _ (F : Fields) (known : List ℕ) (start : length known ≡ table_start F.counts F.tag) (numbers : List ℕ) (counts : Counts)
    (earlier : Agree (table_place F.tag) F.counts counts) where
  abbrev read : ℕ → ℕ → ℕ
  read many = col (known ++ rows_of F many)

  module _ (n : ℕ) (leads : Leads (known ++ rows_of F n) numbers) (row : ℕ) (l : row < n) where
    alike : (place : ℕ) → place < row_start F.counts F.tag (suc row) → read (suc row) place ≡ col numbers place
    alike place k =
        let front = leads_trans (known ++ rows_of F (suc row)) (known ++ rows_of F n) numbers
        (leads-rows known (row_of F) (suc row) n l) leads in
        sym
        (front.1 place
        (omega (
          arith,
          k,
          start,
          length-append known (rows_of F (suc row)),
          length-joined (row_of F) (form F.tag).columns
              (length-row F) (suc row),
        )))

    pub passes-all : (test : Test) → passes test F.source F.counts (read (suc row)) F.tag row ≡ passes test
        F.source counts (col numbers) F.tag row
    passes-all test = passes_same test F.source F.tag F.counts counts (read (suc row)) (col numbers) row earlier alike

pub run-passes : (F : Fields) (known : List ℕ) → length known ≡ table_start F.counts F.tag → (numbers : List ℕ) (counts : Counts)
    → Agree (table_place F.tag) F.counts counts
    → Leads (known ++ rows_of F (run_rows F (λ many. col (known ++ rows_of F many)))) numbers
    → (test : Test) (row : ℕ) → row < run_rows F (λ many. col (known ++ rows_of F many))
    → passes test F.source counts (col numbers) F.tag row ≡ true
run-passes F known start numbers counts earlier leads test row l =
    let read : ℕ → ℕ → ℕ = λ many. col (known ++ rows_of F many) in
    sym (passes-all F known start numbers counts earlier (run_rows F read) leads row l test)
    ∙ fault-none F.source F.counts (read (suc row)) F.tag row (field-none F read row (sound-field F read row l)).1 test
