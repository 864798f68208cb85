-- A run of fields, taken one after another until one is of another tag or faulty.
use mathlib.Core.Path.{◌≡◌, refl, ap, sym, ◌∙◌}
use mathlib.Core.Logic.{⊎_elim}
use mathlib.Core.Bool.{Bool, true, false, cond, not, true≢false}
use mathlib.Core.List.{List}
use Prim.Native.Nat.{ℕ, suc, ◌+◌, ◌*◌, ◌≤◌, ◌<◌}
use native.Mathlib.Nat.{eq-or-lt_of_le}
use native.Mathlib.Numerals.{add-one}
use native.Mathlib.Omega.{arith}
use borrow.Author.Tests.{ltb-true}
use Rattle.std.specs.Prelude.{Ok, is_ok}
use lib.ListN.{length}
use lib.Seq.{sets, length-sets}
use Rattle.columns.specs.Column.{col, joined}
use Rattle.columns.specs.First.{first}
use Rattle.columns.proofs.Firsts.{Searched, searched_none, searched_more, first-marked}
use Rattle.columns.proofs.Firsts as firsts
use Rattle.columns.proofs.Lists.{sets-append, length-listed}
use Rattle.columns.proofs.Joined.{length-joined}
use Rattle.bigendian.proofs.Rows.{length-decode}
use Rattle.dayformat.specs.declared.form.Tag.{Tag}
use Rattle.dayformat.specs.Format.{widths, field_size, form}
use Rattle.dayformat.specs.Layout.{table_start}
use Rattle.dayrows.specs.declared.Test.TheVariants as Test
use Rattle.dayrows.specs.Fault.{Found}
use Rattle.dayrows.specs.Test.{fault}
use Rattle.dayrows.specs.Whole.{broken, with_row}
use Rattle.dayrows.proofs.Faults.{fault-none}
use Rattle.dayrows.proofs.Finding.{none-ok, ok-none, not_ok-some}
use Rattle.dayrows.proofs.Within.{both, passes-bounded}
use Rattle.dayrows.proofs.Breaking.{broken-none}
use Rattle.dayfields.specs.Field.{Taken}
use Rattle.dayruns.specs.declared.run.Run.{Run}
use Rattle.dayruns.specs.Run.{Fields, place_of, row_of, rows_of, field_fault, begun, stops, laid, taken_rows, run_rows, Ran}

-- where a field begins there is a byte
pub begun-inside : (file : List ℕ) (tag : Tag) (at : ℕ) → begun file tag at ≡ true → at < length file
unfolding begun
begun-inside file tag at e = ltb-true _ _ (both _ _ e).0

-- a row has as many numbers as its tag's body
pub length-row : (F : Fields) (row : ℕ) → length (row_of F row) ≡ (form F.tag).columns
length-row F row = length-decode (widths F.tag) _ ∙ length-listed _ _

pub length-rows : (F : Fields) (many : ℕ) → length (rows_of F many) ≡ many * (form F.tag).columns
length-rows F many = length-joined (row_of F) (form F.tag).columns (length-row F) many

-- a sound field is whole, and its row passes every test
pub field-none : (F : Fields) (read : ℕ → ℕ → ℕ) (row : ℕ) → field_fault F read row ≡ Ok tt
    → (broken F.file F.tag (place_of F row) ≡ Ok tt) × (fault F.source F.counts (read (suc row)) F.tag row ≡ Ok tt)
unfolding field_fault
field-none F read row = by (is_ok (broken F.file F.tag (place_of F row))) refl
  where
    by : (whole : Bool) → is_ok (broken F.file F.tag (place_of F row)) ≡ whole
        → cond whole (fault F.source F.counts (read (suc row)) F.tag row) (broken F.file F.tag (place_of F row)) ≡ Ok tt
        → (broken F.file F.tag (place_of F row) ≡ Ok tt) × (fault F.source F.counts (read (suc row)) F.tag row ≡ Ok tt)
    by true t e = (ok-none _ t, e)
    by false t e = absurd (not_ok-some _ t e)

-- a run has no more rows than there may be
pub few : (F : Fields) (read : ℕ → ℕ → ℕ) (row : ℕ) → field_fault F read row ≡ Ok tt → row < (form F.tag).most
few F read row e =
    (passes-bounded F.source F.counts (read (suc row)) F.tag row
    (fault-none F.source F.counts (read (suc row)) F.tag row (field-none F read row e).1 Test.Bounds)).0

-- where the run goes on the field is sound, and where a sound field begins it goes on
pub goes_sound : (F : Fields) (read : ℕ → ℕ → ℕ) (row : ℕ) → stops F read row ≡ false → field_fault F read row ≡ Ok tt
unfolding stops
goes_sound F read row = by (begun F.file F.tag (place_of F row)) (is_ok (field_fault F read row)) refl
  where
    by : (here sound : Bool) → is_ok (field_fault F read row) ≡ sound → cond here (not sound) true ≡ false → field_fault F read row ≡ Ok tt
    by true true e s = ok-none _ e
    by true false e s = absurd (true≢false s)
    by false sound e s = absurd (true≢false s)

stop_not : (F : Fields) (read : ℕ → ℕ → ℕ) (row : ℕ) → begun F.file F.tag (place_of F row) ≡ true → field_fault F read row ≡ Ok tt
    → stops F read row ≡ false
unfolding stops
stop_not F read row on e = rw (on, none-ok e)

module _ (F : Fields) (lent : List ℕ) where
  abbrev read : ℕ → ℕ → ℕ
  read many = col (laid F lent many)

  -- one row more
  laid_next : (row : ℕ) → laid F lent (suc row) ≡ with_row F.counts F.file F.tag (place_of F row) row (laid F lent row)
  unfolding joined
  laid_next row =
      sets-append (rows_of F row) (row_of F row) lent (table_start F.counts F.tag)
      ∙ ap (λ many. sets (laid F lent row) (table_start F.counts F.tag + many) (row_of F row)) (length-rows F row)

  -- so many fields are taken, all sound, up to a place
  pub record Going (rows place : ℕ) (numbers : List ℕ) : Type 0 where
    pub searched : Searched (stops F read) (form F.tag).most rows
    pub here : place ≡ place_of F rows
    pub lays : numbers ≡ laid F lent rows

  pub going_none : Going 0 F.at lent
  unfolding joined
  going_none = record { searched = searched_none _ _; here = omega arith; lays = refl }

  module _ {rows place : ℕ} {numbers : List ℕ} (G : Going rows place numbers) where
    pub going_long : length numbers ≡ length lent
    going_long = ap length G.lays ∙ length-sets lent _ (rows_of F rows)

    -- the run ends where a row is reached that stops it
    ends_here : stops F read rows ≡ true → rows ≡ first (form F.tag).most (stops F read)
    ends_here e =
        ⊎_elim (λ last. firsts.ends _ _ rows G.searched (omega (arith, last))) (λ l. firsts.stops _ _ rows G.searched l e)
        (eq-or-lt_of_le G.searched.inside)

    -- the next field is of another tag
    pub run-over : begun F.file F.tag place ≡ false → Ran F lent numbers (record { rows = rows; place = place; found = Ok tt })
    unfolding stops
    run-over off =
        let gone : begun F.file F.tag (place_of F rows) ≡ false = ap (begun F.file F.tag) (sym G.here) ∙ off in
        let last = ends_here (rw gone) in
        record { answers = rw (← last, gone, G.here); lays = rw (← last, gone) G.lays }

    module _ (on : begun F.file F.tag place ≡ true) {found : Found} {after : List ℕ}
        (T : Taken F.source F.counts F.file F.tag place rows numbers after found) where
      stands : begun F.file F.tag (place_of F rows) ≡ true
      stands = ap (begun F.file F.tag) (sym G.here) ∙ on

      tested : found ≡ field_fault F read rows
      unfolding field_fault
      tested = T.answers ∙ rw (G.here, G.lays, laid_next)

      -- its row is read where it is whole
      read_on : after
          ≡ laid F lent (cond (is_ok (broken F.file F.tag (place_of F rows))) (suc rows) rows)
      read_on = T.lays ∙ rw (G.here, G.lays) (by (is_ok (broken F.file F.tag (place_of F rows))))
        where
          by : (whole : Bool)
              → cond whole (with_row F.counts F.file F.tag (place_of F rows) rows (laid F lent rows)) (laid F lent rows)
              ≡ laid F lent (cond whole (suc rows) rows)
          by true = sym (laid_next rows)
          by false = refl

      -- the next field is faulty
      pub run-faulty : is_ok found ≡ false → Ran F lent after (record { rows = rows; place = place; found = found })
      unfolding stops
      run-faulty some =
          let bad : is_ok (field_fault F read rows) ≡ false = ap is_ok (sym tested) ∙ some in
          let last = ends_here (rw (stands, bad)) in
          record { answers = rw (← last, stands, G.here, tested); lays = rw (← last, stands) read_on }

      -- the next field is sound
      module _ (none : found ≡ Ok tt) where
        sound : field_fault F read rows ≡ Ok tt
        sound = sym tested ∙ none

        pub going_few : rows < (form F.tag).most
        going_few = few F read rows sound

        unbroken : broken F.file F.tag place ≡ Ok tt
        unbroken = ap (broken F.file F.tag) G.here ∙ (field-none F read rows sound).0

        pub going_there : place + field_size F.tag ≤ length F.file
        going_there = (broken-none F.file F.tag place unbroken).there

        pub going_next : Going (rows + 1) (place + field_size F.tag) after
        unfolding stops
        going_next =
            let good = none-ok sound in
            record {
              searched = searched_more _ _ rows G.searched going_few (rw (stands, good));
              here = omega (arith, G.here);
              lays = rw add-one (T.lays ∙ rw (none-ok unbroken, G.here, G.lays, laid_next));
            }

-- ---- a run without a fault has read the rows of its fields and no more
module _ (F : Fields) (lent : List ℕ) {after : List ℕ} {run : Run} (R : Ran F lent after run) (none : run.found ≡ Ok tt) where
  abbrev end : ℕ
  end = run_rows F (read F lent)

  rows_alone : taken_rows F (read F lent) ≡ end
  rows_alone = by (begun F.file F.tag (place_of F end)) refl (ap (λ run. run.found) (sym R.answers) ∙ none)
    where
      goes_on : begun F.file F.tag (place_of F end) ≡ true → field_fault F (read F lent) end ≡ Ok tt → stops F (read F lent) end ≡ false
      goes_on on e = stop_not F (read F lent) end on e

      by : (here : Bool) → begun F.file F.tag (place_of F end) ≡ here → cond here (field_fault F (read F lent) end) (Ok tt) ≡ Ok tt
          → cond here (cond (is_ok (broken F.file F.tag (place_of F end))) (suc end) end) end ≡ end
      by false off e = refl
      by true on e =
          absurd
          (true≢false
          (sym (first-marked (stops F (read F lent)) (form F.tag).most (few F (read F lent) end e)) ∙ goes_on on e))

  pub ran_sound : after ≡ laid F lent run.rows
  ran_sound = R.lays ∙ ap (laid F lent) (rows_alone ∙ ap (λ run. run.rows) (sym R.answers))
