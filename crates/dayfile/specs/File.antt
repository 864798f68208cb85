-- 01, "The day file": a head, then the fields of each tag in order, then nothing.
use Rattle.std.specs.Prelude.{cond, List, [], ◌++◌, ℕ, zero, suc, is_ok}
use Rattle.columns.specs.Column.{col}
use Rattle.dayformat.specs.declared.day.Head.{Head}
use Rattle.dayformat.specs.declared.form.Tag.{Tag}
use Rattle.dayformat.specs.Format.{many_tables, tag_at, field_size, number_in}
use Rattle.dayformat.specs.Layout.{no_rows}
use Rattle.dayrows.specs.declared.Source.{Source}
use Rattle.dayrows.specs.Fault.{Found}
use Rattle.dayruns.specs.declared.run.Run.{Run}
use Rattle.dayruns.specs.declared.walk.Walk.{Walk}
use Rattle.dayruns.specs.Run.{Fields, rows_of, field_fault, run_of}
use Rattle.dayruns.specs.Walk.{walk_after, ended}

-- a file read up to a place or to its first faulty field, and the numbers of the rows before
pub record Tables : Type 0 where
  pub walk : Walk
  pub numbers : List ℕ

abbrev pub fields_from : List ℕ → Walk → Tag → Fields
fields_from file walk tag =
    record { source = Source.File; counts = walk.counts; file = file; at = walk.place; tag = tag }

-- ---- tag 1: once, first
abbrev pub head_fields : List ℕ → Fields
head_fields file = record { source = Source.File; counts = no_rows; file = file; at = 0; tag = Tag.Head }

abbrev pub head_fault : List ℕ → Found
head_fault file = field_fault (head_fields file) (λ rows. col (rows_of (head_fields file) rows)) 0

unfoldable pub headed : List ℕ → Walk
headed file =
    record { found = head_fault file; place = cond (is_ok (head_fault file)) (field_size Tag.Head) 0; counts = no_rows }

abbrev pub head_of : List ℕ → Head
head_of file =
    record {
      day = number_in Tag.Head file 0;
      free_flow = record { 0 = number_in Tag.Head file 1 };
      compressor = record { 0 = number_in Tag.Head file 2 };
    }

-- ---- the fields of one tag after those before
abbrev pub table_run : List ℕ → Tag → Tables → Run
table_run file tag T =
    let F = fields_from file T.walk tag in
    run_of F (λ many. col (T.numbers ++ rows_of F many))

unfoldable pub tabled : List ℕ → Tag → Tables → Tables
tabled file tag T =
    cond (is_ok T.walk.found)
    (record {
      walk = walk_after T.walk tag (table_run file tag T);
      numbers = T.numbers ++ rows_of (fields_from file T.walk tag) (table_run file tag T).rows;
    })
    T

-- ---- the head and the first so many tables, then the whole file
unfoldable pub tables_to : List ℕ → ℕ → Tables
tables_to file zero = record { walk = headed file; numbers = [] }
tables_to file (suc place) = tabled file (tag_at place) (tables_to file place)

abbrev pub tables : List ℕ → Tables
tables file = tables_to file many_tables

abbrev pub walked : List ℕ → Walk
walked file = ended file (tables file).walk
