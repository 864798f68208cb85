-- A file walked through with a list of zeros for its numbers: each run is the definition's, and leaves its rows at the front.
use mathlib.Core.Path.{◌≡◌, refl, ap, sym, ◌∙◌}
use mathlib.Core.Bool.{Bool, true, false}
use mathlib.Core.List.{List, ◌++◌}
use Prim.Native.Nat.{ℕ, suc, ◌≤◌, ◌<◌}
use native.Mathlib.Omega.{arith}
use Rattle.std.specs.Prelude.{Ok, is_ok}
use lib.ListN.{length, length-append}
use Rattle.columns.specs.Column.{col}
use Rattle.columns.proofs.Firsts.{first_le}
use Rattle.dayformat.specs.declared.form.Tag.{Tag}
use Rattle.dayformat.specs.Format.{many_tables, tag_at, form}
use Rattle.dayformat.specs.Layout.{table_start, numbers_in, most_numbers}
use Rattle.dayformat.specs.Private.{Few, NoneFrom}
use Rattle.dayformat.proofs.Layouts.{few_with, none_with, starts-after, grown, room_after}
use Rattle.dayrows.proofs.Finding.{none-ok, ok-none, not_ok-some}
use Rattle.dayruns.specs.declared.run.Run.{Run}
use Rattle.dayruns.specs.declared.walk.Walk.{Walk}
use Rattle.dayruns.specs.Run.{Fields, rows_of, stops, run_of, laid}
use Rattle.dayruns.specs.Walk.{walk_after}
use Rattle.dayruns.proofs.Running.{length-rows}
use Rattle.dayruns.proofs.Runs.{run-same, run-front}
use Rattle.dayfile.specs.File.{Tables, fields_from, table_run, tabled}
use Rattle.dayfile.specs.Private.{Tabled}

-- ---- the numbers of the tables read so far stand at the front of a list that has room for every day
pub record Held (T : Tables) (lent : List ℕ) : Type 0 where
  pub few : Few T.walk.counts
  pub front : col lent ≡ col T.numbers
  pub long : length T.numbers ≡ numbers_in T.walk.counts

-- so it is after the runs of so many tags, unless a fault is found
abbrev pub Ready : ℕ → Tables → List ℕ → Type 0
Ready many T lent = T.walk.found ≡ Ok tt → Held T lent × NoneFrom many T.walk.counts

module _ (file : List ℕ) (n : ℕ) (l : n < many_tables) (T : Tables) (lent : List ℕ) (room : length lent ≡ most_numbers)
    (ready : Ready n T lent) where
  abbrev tag : Tag
  tag = tag_at n

  abbrev F : Fields
  F = fields_from file T.walk tag

  abbrev lent_run : Run
  lent_run = run_of F (λ many. col (laid F lent many))

  module _ (none : T.walk.found ≡ Ok tt) where
    held : Held T lent
    held = (ready none).0

    starts : table_start T.walk.counts tag ≡ numbers_in T.walk.counts
    starts = starts-after T.walk.counts n l (ready none).1

    at_front : (many : ℕ) → many ≤ (form tag).most → col (laid F lent many) ≡ col (T.numbers ++ rows_of F many)
    at_front =
        run-front F T.numbers lent held.front (held.long ∙ sym starts)
        (omega (arith, room, room_after T.walk.counts held.few n l))

    lent_same : lent_run ≡ table_run file tag T
    lent_same = run-same F (λ many. col (laid F lent many)) (λ many. col (T.numbers ++ rows_of F many)) at_front

    few-rows : (table_run file tag T).rows ≤ (form tag).most
    few-rows = first_le (stops F (λ many. col (T.numbers ++ rows_of F many))) (form tag).most

    held_next : {after : List ℕ} → after ≡ laid F lent lent_run.rows → Held (tabled file tag T) after
        × NoneFrom (suc n) (tabled file tag T).walk.counts
    unfolding tabled
    held_next lays =
        let on = none-ok none in
        let rows = (table_run file tag T).rows in
        rw on (
          record {
            few = few_with n l T.walk.counts rows held.few few-rows;
            front = ap col lays ∙ ap (λ run. col (laid F lent run.rows)) lent_same ∙ at_front rows few-rows;
            long =
                omega (
                  arith,
                  length-append T.numbers (rows_of F rows),
                  length-rows F rows,
                  held.long,
                  grown n l T.walk.counts rows (ready none).1,
                );
          },
          none_with n l T.walk.counts rows (ready none).1,
        )

  module _ {after : List ℕ} {next : Walk} (B : Tabled T.walk file tag lent after next) where
    pub table-answers : next ≡ (tabled file tag T).walk
    unfolding tabled
    table-answers = by (is_ok T.walk.found) refl
      where
        by : (sound : Bool) → is_ok T.walk.found ≡ sound → next ≡ (tabled file tag T).walk
        by true e = B.answers ∙ rw e (ap (walk_after T.walk tag) (lent_same (ok-none _ e)))
        by false e = B.answers ∙ rw e

    pub table-ready : Ready (suc n) (tabled file tag T) after
    unfolding tabled
    table-ready = by (is_ok T.walk.found) refl
      where
        by : (sound : Bool) → is_ok T.walk.found ≡ sound → Ready (suc n) (tabled file tag T) after
        by true e none =
            let first = ok-none _ e in
            held_next first (B.lays first (ap (λ walk. walk.found) table-answers ∙ none))
        by false e none = absurd (not_ok-some _ e (rw e at none))
