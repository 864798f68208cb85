-- An accepted file read so far: its bytes are the fields of the day that is read, whose rows all pass.
use mathlib.Core.Path.{◌≡◌, refl, ap, ap₂, sym, ◌∙◌}
use mathlib.Core.Logic.{⊎_elim}
use mathlib.Core.Bool.{Bool, true, false, cond}
use mathlib.Core.List.{List, ◌++◌, append_assoc}
use Prim.Native.Nat.{ℕ, suc, ◌+◌, ◌*◌, ◌<◌}
use native.Mathlib.Nat.{eq-or-lt_of_le, le_of_suc-le-suc}
use native.Mathlib.Omega.{arith}
use Rattle.std.specs.Prelude.{Ok, is_ok}
use lib.ListN.{length, take, length-append}
use lib.Seq.{take-add}
use Rattle.columns.specs.Column.{col, joined}
use Rattle.columns.proofs.Firsts.{first_le}
use Rattle.columns.proofs.Joined.{joined_same}
use Rattle.bigendian.specs.Number.{AreBytes}
use Rattle.dayformat.specs.declared.form.Tag.{Tag}
use Rattle.dayformat.specs.declared.form.Tag.TheVariants.{Head}
use Rattle.dayformat.specs.declared.layout.Counts.{Counts}
use Rattle.dayformat.specs.Format.{many_tables, tag_at, table_place, field_size, form, field}
use Rattle.dayformat.specs.Layout.{count, table_start, row_start, numbers_in}
use Rattle.dayformat.specs.Private.{Few, Agree, NoneFrom}
use Rattle.dayformat.specs.DayBytes.{row_from, head_row, fields}
use Rattle.dayformat.proofs.Every.{place_at}
use Rattle.dayformat.proofs.Layouts.{agree-rows, few_with, none_with, starts-after, grown}
use Rattle.dayrows.specs.declared.Source.TheVariants.{File}
use Rattle.dayrows.specs.declared.Test.{Test}
use Rattle.dayrows.specs.Test.{passes}
use Rattle.dayrows.proofs.Finding.{ok-none, not_ok-some}
use Rattle.dayrows.proofs.Same.{start-same}
use Rattle.dayruns.specs.Run.{Fields, row_of, rows_of, stops}
use Rattle.dayruns.specs.Walk.{walk_after}
use Rattle.dayruns.proofs.Running.{length-row, length-rows}
use Rattle.dayfile.specs.File.{Tables, fields_from, head_of, table_run, tabled}
use Rattle.dayfile.proofs.Leading.{Leads, leads-append, leads_trans, row_stands}
use Rattle.dayfile.proofs.SoundRuns.{run-bytes, run-passes}

-- a run after which there is no fault had none before it
pub tabled-none : (file : List ℕ) (tag : Tag) (T : Tables) → (tabled file tag T).walk.found ≡ Ok tt
    → (T.walk.found ≡ Ok tt)
    × (tabled file tag T
    ≡ record {
      walk = walk_after T.walk tag (table_run file tag T);
      numbers = T.numbers ++ rows_of (fields_from file T.walk tag) (table_run file tag T).rows;
    })
unfolding tabled
tabled-none file tag T = by (is_ok T.walk.found) refl
  where
    more : Tables
    more =
        record {
          walk = walk_after T.walk tag (table_run file tag T);
          numbers = T.numbers ++ rows_of (fields_from file T.walk tag) (table_run file tag T).rows;
        }

    by : (sound : Bool) → is_ok T.walk.found ≡ sound → (cond sound more T).walk.found ≡ Ok tt
        → (T.walk.found ≡ Ok tt) × (cond sound more T ≡ more)
    by true s e = (ok-none _ s, refl)
    by false s e = absurd (not_ok-some _ s e)

-- every row of a table passes every test
abbrev pub AllPass : Counts → (ℕ → ℕ) → Tag → Type 0
AllPass counts numbers tag = (test : Test) (row : ℕ) → row < count counts tag → passes test File counts numbers tag row ≡ true

-- the head's field as it stands, and those of the first so many tables
abbrev fields_to : List ℕ → Counts → (ℕ → ℕ) → ℕ → List ℕ
fields_to file counts numbers many =
    field Head (head_row (head_of file)) ++ joined many (λ place. fields counts numbers (tag_at place))

-- what is read after the runs of so many tags, told of any day that goes on from there
pub record Reread (file : List ℕ) (many : ℕ) (T : Tables) : Type 0 where
  pub few : Few T.walk.counts
  pub long : length T.numbers ≡ numbers_in T.walk.counts
  pub none : NoneFrom many T.walk.counts
  pub bytes : AreBytes file → (counts : Counts) (numbers : List ℕ) → Agree many T.walk.counts counts → Leads T.numbers numbers
      → take T.walk.place file ≡ fields_to file counts (col numbers) many
  pub pass : (counts : Counts) (numbers : List ℕ) → Agree many T.walk.counts counts → Leads T.numbers numbers
      → (place : ℕ) → place < many → AllPass counts (col numbers) (tag_at place)

module _ (file : List ℕ) (n : ℕ) (l : n < many_tables) (T : Tables) (R : Reread file n T) where
  abbrev tag : Tag
  tag = tag_at n

  abbrev F : Fields
  F = fields_from file T.walk tag

  abbrev rows : ℕ
  rows = (table_run file tag T).rows

  abbrev more : Tables
  more = record { walk = walk_after T.walk tag (table_run file tag T); numbers = T.numbers ++ rows_of F rows }

  start : length T.numbers ≡ table_start T.walk.counts tag
  start = R.long ∙ sym (starts-after T.walk.counts n l R.none)

  module _ (counts : Counts) (numbers : List ℕ) (a : Agree (suc n) more.walk.counts counts) (leads : Leads more.numbers numbers)
    where
      before : Agree n T.walk.counts counts
      before = (agree-rows n l T.walk.counts rows counts a).0

      earlier : Agree (table_place tag) T.walk.counts counts
      earlier = rw (place_at n l) before

      counted : rows ≡ count counts tag
      counted = (agree-rows n l T.walk.counts rows counts a).1

      front : Leads T.numbers numbers
      front = leads_trans T.numbers more.numbers numbers (leads-append T.numbers (rows_of F rows)) leads

      row_same : (row : ℕ) → row < rows → field tag (row_of F row) ≡ field tag (row_from (col numbers) tag (row_start counts tag row))
      row_same row k =
          let from : row_start counts tag row ≡ length T.numbers + row * (form tag).columns =
          omega (arith, start, start-same tag T.walk.counts counts earlier)
          in ap (field tag)
          (sym (row_stands T.numbers (row_of F) (form tag).columns (length-row F) rows numbers leads row
          (row_start counts tag row) k from))

      bytes-more : AreBytes file → take more.walk.place file ≡ fields_to file counts (col numbers) (suc n)
      unfolding joined
      bytes-more are =
          take-add T.walk.place (rows * field_size tag) file
          ∙ ap₂ (λ x y. x ++ y) (R.bytes are counts numbers before front)
          (run-bytes F _ are
          ∙ joined_same rows (λ row. field tag (row_of F row))
          (λ row. field tag (row_from (col numbers) tag (row_start counts tag row))) row_same
          ∙ ap (λ n. joined n (λ row. field tag (row_from (col numbers) tag (row_start counts tag row)))) counted)
          ∙ append_assoc (field Head (head_row (head_of file))) (joined n (λ place. fields counts (col numbers) (tag_at place)))
          (fields counts (col numbers) tag)

      pass_more : (place : ℕ) → place < suc n → AllPass counts (col numbers) (tag_at place)
      pass_more place k =
          ⊎_elim
          (λ e. rw e (λ test row h. run-passes F T.numbers start numbers counts earlier leads test row (omega (arith, h, counted))))
          (λ below. R.pass counts numbers before front place below)
          (eq-or-lt_of_le (le_of_suc-le-suc k))

  pub reread_more : (tabled file tag T).walk.found ≡ Ok tt → Reread file (suc n) (tabled file tag T)
  reread_more sound =
      rw (tabled-none file tag T sound).1
      (record {
        few = few_with n l T.walk.counts rows R.few
            (first_le (stops F (λ many. col (T.numbers ++ rows_of F many))) (form tag).most);
        long = omega (
          arith,
          length-append T.numbers (rows_of F rows),
          length-rows F rows,
          R.long,
          grown n l T.walk.counts rows R.none,
        );
        none = none_with n l T.walk.counts rows R.none;
        bytes = λ are counts numbers a leads. bytes-more counts numbers a leads are;
        pass = pass_more;
      })
