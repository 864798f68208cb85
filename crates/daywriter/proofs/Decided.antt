-- The tests decide an answer of `write_day`: number 0 exactly where they accept, with the file's size; else zero.
use Rattle.std.specs.Prelude.{Result}
use mathlib.Core.Path.{refl}
use mathlib.Core.List.{List}
use Prim.Native.Nat.{ℕ}
use lib.Dec.{T, leb}
use lib.ListN.{length}
use Rattle.units.specs.Verdict.{Decided}
use Rattle.units.proofs.Verdicts.{AllNumbered, none, ◌and◌, kept_by, cleared_by, each_by, decided}
use Rattle.dayformat.specs.declared.day.Day.{Day}
use Rattle.dayformat.specs.declared.layout.Counts.{Counts}
use Rattle.dayformat.specs.Format.{many_tables}
use Rattle.dayformat.specs.Layout.{file_size}
use Rattle.dayformat.proofs.Decided.{counts_numbered}
use Rattle.dayrows.specs.declared.Test.{Test}
use Rattle.daywriter.specs.Acceptance.{singles_check, tables_check, rows_check, sound, written_check}
use Rattle.daywriter.specs.Answer.{written_answer, written_verdict, WrittenAnswered}
use Rattle.units.specs.declared.refusal.Refusal.{Refusal}

singles_numbered : (day : Day) → AllNumbered (singles_check day)
unfolding singles_check
singles_numbered day = none and kept_by _ 3 tt tt and kept_by _ 3 tt tt and counts_numbered day.counts

tables_numbered : (test : Test) (number : ℕ) (counts : Counts) (numbers : ℕ → ℕ) → T (leb 1 number) → T (leb number 11)
    → AllNumbered (tables_check test number counts numbers)
unfolding tables_check
tables_numbered test number counts numbers l m =
    each_by _ many_tables (λ place. cleared_by _ _ number l m)

rows_numbered : (counts : Counts) (numbers : ℕ → ℕ) → AllNumbered (rows_check counts numbers)
unfolding rows_check
rows_numbered counts numbers =
    none and tables_numbered _ 3 _ _ tt tt and tables_numbered _ 5 _ _ tt tt and tables_numbered _ 4 _ _ tt tt

written_numbered : (day : Day) (numbers : List ℕ) (room : ℕ) → AllNumbered (written_check day numbers room)
unfolding written_check sound
written_numbered day numbers room =
    none and kept_by _ 9 tt tt and singles_numbered day and rows_numbered day.counts _ and kept_by _ 7 tt tt

pub written_decided : {day : Day} {numbers lent after : List ℕ} {written : Result ℕ Refusal}
    → WrittenAnswered day numbers lent after written
    → Decided (written_check day numbers (length lent)) (file_size day.counts) 0 (written_verdict written)
written_decided {day} {numbers} {lent} A =
    decided written_answer written_verdict refl (λ refusal. refl) (written_numbered day numbers (length lent)) A.answers
