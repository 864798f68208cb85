-- The reader's answer: the head and the counts, with every figure in the lent block; or the refusal, with the block as it was.
use Rattle.std.specs.Prelude.{◌≡◌, List, ℕ, leb, length, Result, Ok, Err}
use Rattle.std.proofs.lemmas.List.Edits.{sets}
use Rattle.units.specs.Refusals.{accepted_or, ◌then◌, keep, Check}
use Rattle.units.specs.Verdict.{Verdict, accepting, refusing}
use Rattle.dayformat.specs.declared.day.Day.{Day}
use Rattle.dayformat.specs.Layout.{no_rows, numbers_in}
use Rattle.dayruns.specs.Walk.{file_check}
use Rattle.dayfile.specs.File.{head_of, tables, walked}
use Rattle.units.specs.declared.refusal.Refusal.{Refusal}

-- 7 only for a file that is otherwise sound
unfoldable pub reading_check : List ℕ → ℕ → Check
reading_check file room = file_check (walked file) then keep (leb (numbers_in (walked file).counts) room) 7

abbrev pub day_of : List ℕ → Day
day_of file = record { head = head_of file; counts = (walked file).counts }

abbrev pub reading_answer : Check → Day → Result Day Refusal
reading_answer (Err refusal) day = Err refusal
reading_answer (Ok _) day = Ok day

-- 01's number, place and figures of each case: the head's and the counts'
abbrev pub reading_verdict : Result Day Refusal → Verdict Day
reading_verdict (Ok day) = accepting day
reading_verdict (Err refusal) =
    refusing refusal
    (record { head = record { day = 0; free_flow = record { 0 = 0 }; compressor = record { 0 = 0 } }; counts = no_rows })

-- the answer, and the lent block before and after
pub record ReadingAnswered (file lent after : List ℕ) (reading : Result Day Refusal) : Type 0 where
  pub answers : reading ≡ reading_answer (reading_check file (length lent)) (day_of file)
  pub leaves : after ≡ accepted_or (reading_check file (length lent)) (sets lent 0 (tables file).numbers) lent

-- the reader accepts a file, and the day with its numbers is what it answers
pub record Reads (file : List ℕ) (day : Day) (numbers : List ℕ) : Type 0 where
  pub accepted : (walked file).found ≡ Ok tt
  pub day_is : day_of file ≡ day
  pub numbers_are : (tables file).numbers ≡ numbers
