-- What acceptance says of a day and its numbers, and that a day of which all this holds is accepted.
use Rattle.std.specs.Prelude.{Ok}
use mathlib.Core.Path.{◌≡◌, refl, sym}
use mathlib.Core.Bool.{not}
use mathlib.Core.List.{List}
use Prim.Native.Nat.{ℕ, ◌≤◌}
use native.Mathlib.Nat.{le_of_eq}
use borrow.Author.Tests.{leb-true, eqb-true, not-false, le-leb, eq-eqb}
use Rattle.columns.specs.Column.{col}
use Rattle.columns.proofs.Firsts.{first-passed, first-none}
use Rattle.units.specs.Bound.{most_gigajoules}
use Rattle.units.specs.Refusals.{clear, Check}
use Rattle.units.proofs.Checks.{both-accepted, kept, cleared, accepts-both, accepts-kept, accepts-clear}
use Rattle.units.proofs.Testing.{each-accepted, accepts-each}
use Rattle.dayformat.specs.declared.day.Day.{Day}
use Rattle.dayformat.specs.declared.form.Tag.{Tag}
use Rattle.dayformat.specs.declared.layout.Counts.{Counts}
use Rattle.dayformat.specs.Format.{many_tables, tag_at, table_place}
use Rattle.dayformat.specs.Layout.{count}
use Rattle.dayformat.specs.Private.{HasTable, Few}
use Rattle.dayformat.proofs.Every.{inside, table_at}
use Rattle.dayformat.proofs.Accepting.{counts-accepted, counts_accept}
use Rattle.dayrows.specs.declared.Source.TheVariants.{File}
use Rattle.dayrows.specs.declared.Test.{Test}
use Rattle.dayrows.specs.declared.Test.TheVariants.{Bounds, Key, Mdq}
use Rattle.dayrows.specs.Test.{passes, first_failing}
use Rattle.dayrows.specs.Private.{Passed, Sound}
use Rattle.daywriter.specs.Acceptance.{singles_check, tables_check, rows_check, sound}

-- ---- one test over the tables
module _ (test : Test) (number : ℕ) (counts : Counts) (numbers : ℕ → ℕ) where
  abbrev clear_at : Tag → Check
  clear_at tag = clear (count counts tag) (first_failing test counts numbers tag) number

  table-passed : (tag : Tag) → clear_at tag ≡ Ok tt → Passed test counts numbers tag
  table-passed tag e row l =
      not-false _ (first-passed (λ row. not (passes test File counts numbers tag row)) (count counts tag) (cleared _ _ _ e) row l)

  table-clear : (tag : Tag) → Passed test counts numbers tag → clear_at tag ≡ Ok tt
  table-clear tag pass =
      accepts-clear _ _ _
      (le_of_eq
      (sym (first-none (λ row. not (passes test File counts numbers tag row)) (count counts tag) (λ row l. rw (pass row l)))))

  tables-passed : tables_check test number counts numbers ≡ Ok tt → (tag : Tag) → HasTable tag → Passed test counts numbers tag
  unfolding tables_check
  tables-passed e tag t =
      table-passed tag (rw t at (each-accepted (λ place. clear_at (tag_at place)) many_tables e (table_place tag) (inside tag)))

  tables-clear : ((tag : Tag) → HasTable tag → Passed test counts numbers tag) → tables_check test number counts numbers ≡ Ok tt
  unfolding tables_check
  tables-clear pass =
      accepts-each (λ place. clear_at (tag_at place)) many_tables
      (λ place l. table-clear (tag_at place) (pass (tag_at place) (table_at place l)))

-- ---- the head and the counts
singles_accept : (day : Day) → day.head.free_flow.0 ≤ most_gigajoules → day.head.compressor.0 ≤ most_gigajoules
    → Few day.counts → singles_check day ≡ Ok tt
unfolding singles_check
singles_accept day free_flow compressor few =
    accepts-both
    (accepts-both (accepts-both refl (accepts-kept 3 (le-leb _ _ free_flow))) (accepts-kept 3 (le-leb _ _ compressor)))
    (counts_accept day.counts few)

-- ---- the whole
module _ (day : Day) (numbers : List ℕ) where
  pub accepting : sound day numbers ≡ Ok tt → Sound day numbers
  unfolding sound singles_check rows_check
  accepting e =
      let figures-rows = both-accepted _ _ e in
      let mdqs = both-accepted _ _ figures-rows.1 in
      let keys = both-accepted _ _ mdqs.0 in
      let bounds = both-accepted _ _ keys.0 in
      let figures = both-accepted _ _ figures-rows.0 in
      let lengths = both-accepted _ _ figures.0 in
      let counts = both-accepted _ _ figures.1 in
      let compressor = both-accepted _ _ counts.0 in
      let free_flow = both-accepted _ _ compressor.0 in
      record {
        long = eqb-true _ _ (kept _ _ lengths.1);
        free_flow = leb-true _ _ (kept _ _ free_flow.1);
        compressor = leb-true _ _ (kept _ _ compressor.1);
        few = counts-accepted day.counts counts.1;
        passes = by bounds.1 keys.1 mdqs.1;
      }
    where
      by : tables_check Bounds 3 day.counts (col numbers) ≡ Ok tt
          → tables_check Key 5 day.counts (col numbers) ≡ Ok tt
          → tables_check Mdq 4 day.counts (col numbers) ≡ Ok tt
          → (tag : Tag) → HasTable tag → (test : Test) → Passed test day.counts (col numbers) tag
      by b k m tag T Bounds = tables-passed Bounds 3 day.counts (col numbers) b tag T
      by b k m tag T Key = tables-passed Key 5 day.counts (col numbers) k tag T
      by b k m tag T Mdq = tables-passed Mdq 4 day.counts (col numbers) m tag T

  pub accepts : Sound day numbers → sound day numbers ≡ Ok tt
  unfolding sound rows_check
  accepts S =
      accepts-both
      (accepts-both (accepts-both refl (accepts-kept 9 (eq-eqb _ _ S.long)))
      (singles_accept day S.free_flow S.compressor S.few))
      (accepts-both (accepts-both (accepts-both refl (clear_by Bounds 3)) (clear_by Key 5)) (clear_by Mdq 4))
    where
      clear_by : (test : Test) (number : ℕ) → tables_check test number day.counts (col numbers) ≡ Ok tt
      clear_by test number = tables-clear test number day.counts (col numbers) (λ tag T. S.passes tag T test)
