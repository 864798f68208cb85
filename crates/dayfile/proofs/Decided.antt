-- The tests decide an answer of `read_day`: a file's walk finds one of 1 to 5 at a byte of a full day's file, or nothing, and then
-- the block's room is tested.
use Rattle.std.specs.Prelude.{Result}
use mathlib.Core.Path.{refl}
use mathlib.Core.List.{List}
use Prim.Native.Nat.{ℕ}
use lib.ListN.{length}
use Rattle.units.specs.Verdict.{Decided}
use Rattle.units.proofs.Places.{PlacedTo, ◌then_if◌, plainly}
use Rattle.units.proofs.Verdicts.{AllNumbered, ◌and◌, kept_by, decided}
use Rattle.dayformat.specs.Layout.{no_rows}
use Rattle.dayruns.specs.Walk.{file_check}
use Rattle.dayruns.proofs.Decided.{refuses_walk, walk_numbered, known-numbered}
use Rattle.dayfile.specs.File.{walked}
use Rattle.dayfile.specs.Answer.{reading_check, day_of, reading_answer, reading_verdict, ReadingAnswered}
use Rattle.dayfile.proofs.Reaching.{most_file, walked_reached}
use Rattle.dayformat.specs.declared.day.Day.{Day}
use Rattle.units.specs.declared.refusal.Refusal.{Refusal}

-- ---- for callers: what a file's own refusal has
pub file_numbered : (file : List ℕ) → AllNumbered (file_check (walked file))
file_numbered file = walk_numbered (walked file) (known-numbered (walked_reached file).fault)

pub file-placed : (file : List ℕ) → PlacedTo most_file (file_check (walked file))
file-placed file = refuses_walk _ (walked file) (λ fault is. (walked_reached file).place)

-- ---- the reader
reading_numbered : (file : List ℕ) (room : ℕ) → AllNumbered (reading_check file room)
unfolding reading_check
reading_numbered file room = file_numbered file and kept_by _ 7 tt tt

pub reading-placed : (file : List ℕ) (room : ℕ) → PlacedTo most_file (reading_check file room)
unfolding reading_check
reading-placed file room = file-placed file then_if plainly _ 7

pub reading_decided : {file lent after : List ℕ} {reading : Result Day Refusal} → ReadingAnswered file lent after reading
    → Decided (reading_check file (length lent)) (day_of file)
    (record {
      head = record { day = 0; free_flow = record { 0 = 0 }; compressor = record { 0 = 0 } };
      counts = no_rows;
    })
    (reading_verdict reading)
reading_decided {file} {lent} A = decided reading_answer reading_verdict refl (λ refusal. refl) (reading_numbered file (length lent))
    A.answers
