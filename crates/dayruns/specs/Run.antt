-- 01, "The day file" and "Refusal numbers": the fields of one tag, one after another.
use Rattle.std.specs.Prelude.{◌≡◌, Bool, true, false, cond, not, List, ℕ, suc, ◌+◌, ◌*◌, ltb, eqb, length, drop, is_ok, Ok}
use Rattle.std.proofs.lemmas.List.Edits.{sets}
use Rattle.columns.specs.Column.{col, joined}
use Rattle.columns.specs.First.{first}
use Rattle.bigendian.specs.Row.{decode}
use Rattle.dayformat.specs.declared.form.Tag.{Tag}
use Rattle.dayformat.specs.declared.layout.Counts.{Counts}
use Rattle.dayformat.specs.Format.{widths, header, field_size, form}
use Rattle.dayformat.specs.Layout.{table_start}
use Rattle.dayrows.specs.declared.Source.{Source}
use Rattle.dayrows.specs.Fault.{Found}
use Rattle.dayrows.specs.Test.{fault}
use Rattle.dayrows.specs.Whole.{broken}
use Rattle.dayruns.specs.declared.run.Run.{Run}

-- the fields of a tag from a byte of a file on, and what their rows are tested against
pub record Fields : Type 0 where
  pub source : Source
  pub counts : Counts
  pub file : List ℕ
  pub at : ℕ
  pub tag : Tag

-- ---- the fields of a run, counted from 0
abbrev pub place_of : Fields → ℕ → ℕ
place_of F row = F.at + row * field_size F.tag

abbrev pub row_of : Fields → ℕ → List ℕ
row_of F row = decode (widths F.tag) (drop (place_of F row + header) F.file)

abbrev pub rows_of : Fields → ℕ → List ℕ
rows_of F many = joined many (row_of F)

-- within a field 1 (header), 2, 1 (body), 3, 5, 4; `read` has the day's numbers up to so many rows of the run
unfoldable pub field_fault : Fields → (ℕ → ℕ → ℕ) → ℕ → Found
field_fault F read row =
    cond (is_ok (broken F.file F.tag (place_of F row)))
    (fault F.source F.counts (read (suc row)) F.tag row)
    (broken F.file F.tag (place_of F row))

-- the next byte is the tag's
unfoldable pub begun : List ℕ → Tag → ℕ → Bool
begun file tag at = cond (ltb at (length file)) (eqb (col file at) (form tag).byte) false

-- the run ends before a field that is of another tag or faulty
unfoldable pub stops : Fields → (ℕ → ℕ → ℕ) → ℕ → Bool
stops F read row = cond (begun F.file F.tag (place_of F row)) (not (is_ok (field_fault F read row))) true

abbrev pub run_rows : Fields → (ℕ → ℕ → ℕ) → ℕ
run_rows F read = first (form F.tag).most (stops F read)

-- how many sound fields there are, where they end, and the fault there
abbrev pub run_of : Fields → (ℕ → ℕ → ℕ) → Run
run_of F read =
    let rows = run_rows F read in
    record {
      rows = rows;
      place = place_of F rows;
      found = cond (begun F.file F.tag (place_of F rows)) (field_fault F read rows) (Ok tt);
    }

-- the rows that are read: those of the sound fields, and of the faulty one where it is whole
abbrev pub taken_rows : Fields → (ℕ → ℕ → ℕ) → ℕ
taken_rows F read =
    let rows = run_rows F read in
    cond (begun F.file F.tag (place_of F rows)) (cond (is_ok (broken F.file F.tag (place_of F rows))) (suc rows) rows) rows

-- ---- the statement of `run_fields`: the rows go into a lent list, which they are tested in
abbrev pub laid : Fields → List ℕ → ℕ → List ℕ
laid F lent many = sets lent (table_start F.counts F.tag) (rows_of F many)

pub record Ran (F : Fields) (lent after : List ℕ) (run : Run) : Type 0 where
  pub answers : run ≡ run_of F (λ many. col (laid F lent many))
  pub lays : after ≡ laid F lent (taken_rows F (λ many. col (laid F lent many)))
