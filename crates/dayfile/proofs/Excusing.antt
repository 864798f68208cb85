-- A table none of whose fields follow is passed over, so a file without tag 9 fields is read as before.
use mathlib.Core.Path.{◌≡◌, refl, ap, sym, ◌∙◌}
use mathlib.Core.Bool.{Bool, true, false}
use mathlib.Core.List.{List, ◌++◌, append-nil}
use Prim.Native.Nat.{ℕ}
use native.Mathlib.Omega.{arith}
use Rattle.std.specs.Prelude.{Ok, is_ok}
use Rattle.columns.specs.Column.{col, joined}
use Rattle.columns.proofs.Firsts.{first_found}
use Rattle.dayformat.specs.declared.form.Tag.{Tag}
use Rattle.dayformat.specs.declared.form.Tag.TheVariants.{Excused}
use Rattle.dayformat.specs.declared.layout.Counts.{Counts}
use Rattle.dayformat.specs.Format.{table_place, form}
use Rattle.dayformat.specs.Layout.{count, with_count}
use Rattle.dayformat.specs.Private.{NoneFrom}
use Rattle.dayformat.proofs.Layouts.{agree-all, agree_with}
use Rattle.dayformat.proofs.Small.{small}
use Rattle.dayrows.proofs.Finding.{none-ok, ok-none}
use Rattle.dayruns.specs.Run.{Fields, place_of, rows_of, begun, stops, run_rows}
use Rattle.dayruns.specs.Walk.{walk_after, ended}
use Rattle.dayruns.proofs.Ending.{ended-none}
use Rattle.dayfile.specs.File.{Tables, fields_from, table_run, tabled, tables_to, tables}
use Rattle.dayfile.specs.Excused.{tables_before, NoneExcused, AsBefore}
use Rattle.dayfile.proofs.FileAgain.{reread}

module _ (file : List ℕ) (tag : Tag) (T : Tables) (sound : T.walk.found ≡ Ok tt) (other : begun file tag T.walk.place ≡ false) where
  abbrev F : Fields
  F = fields_from file T.walk tag

  here : place_of F 0 ≡ T.walk.place
  here = omega arith

  no_run : table_run file tag T ≡ record { rows = 0; place = T.walk.place; found = Ok tt }
  unfolding stops
  no_run =
      let read : ℕ → ℕ → ℕ = λ many. col (T.numbers ++ rows_of F many) in
      let none : run_rows F read ≡ 0 =
      first_found (stops F read) (form tag).most 0 (small tag).some-fields (λ k l. absurd (omega (arith, l))) (rw (here, other))
      in rw (none, here, other)

  passed_over : tabled file tag T
      ≡ record { walk = record { found = Ok tt; place = T.walk.place; counts = with_count T.walk.counts tag 0 }; numbers = T.numbers }
  unfolding tabled joined
  passed_over =
      rw (none-ok sound)
      (ap (λ run. record { walk = walk_after T.walk tag run; numbers = T.numbers ++ rows_of F run.rows }) no_run
      ∙ ap
      (λ numbers.
      record { walk = record { found = Ok tt; place = T.walk.place; counts = with_count T.walk.counts tag 0 }; numbers = numbers })
      (append-nil T.numbers))

-- a count that is 0 already
count_none : (counts : Counts) → NoneFrom (table_place Excused) counts → with_count counts Excused 0 ≡ counts
count_none counts none =
    let zero : count counts Excused ≡ 0 = none (table_place Excused) (omega arith) (omega arith) in
    ap (with_count counts Excused) (sym zero)
    ∙ agree-all (with_count counts Excused (count counts Excused)) counts
    (agree_with (table_place Excused) (omega arith) counts counts (λ place l. refl))

module _ (file : List ℕ) where
  abbrev T : Tables
  T = tables_before file

  none_yet : T.walk.found ≡ Ok tt → NoneFrom (table_place Excused) T.walk.counts
  none_yet sound = (reread file (table_place Excused) (omega arith) sound).none

  same : NoneExcused file → tables file ≡ T
  unfolding tables_to tabled
  same none = by (is_ok T.walk.found) refl
    where
      by : (b : Bool) → is_ok T.walk.found ≡ b → tabled file Excused T ≡ T
      by true e =
          let sound = ok-none T.walk.found e in
          passed_over file Excused T sound (none sound)
          ∙ ap
          (λ counts. record { walk = record { found = Ok tt; place = T.walk.place; counts = counts }; numbers = T.numbers })
          (count_none T.walk.counts (none_yet sound))
          ∙ ap
          (λ found. record { walk = record { found = found; place = T.walk.place; counts = T.walk.counts }; numbers = T.numbers })
          (sym sound)
      by false e = rw e

  pub as_before : NoneExcused file → AsBefore file
  as_before excused =
      record {
        walk = ap (λ T. ended file T.walk) (same excused);
        numbers = ap (λ T. T.numbers) (same excused);
        none = λ accepted.
            let ends = ended-none file (tables file).walk accepted in
            let sound = ap (λ T. T.walk.found) (sym (same excused)) ∙ ends.0 in
            ap (λ walk. count walk.counts Excused) (ends.2 ∙ ap (λ T. T.walk) (same excused))
            ∙ none_yet sound (table_place Excused) (omega arith) (omega arith);
      }
