-- The writer's answer: how many bytes, with the day's file at the front of the lent block; or the refusal, with the block as it was.
use Rattle.std.specs.Prelude.{◌≡◌, List, ℕ, length, Result, Ok, Err}
use Rattle.std.proofs.lemmas.List.Edits.{sets}
use Rattle.columns.specs.Column.{col}
use Rattle.units.specs.Refusals.{accepted_or, Check}
use Rattle.units.specs.Verdict.{Verdict, accepting, refusing}
use Rattle.dayformat.specs.declared.day.Day.{Day}
use Rattle.dayformat.specs.Layout.{file_size}
use Rattle.dayformat.specs.DayBytes.{file_of}
use Rattle.daywriter.specs.Acceptance.{written_check}
use Rattle.units.specs.declared.refusal.Refusal.{Refusal}

abbrev pub written_answer : Check → ℕ → Result ℕ Refusal
written_answer (Err refusal) many = Err refusal
written_answer (Ok _) many = Ok many

-- 01's number, place and figure of each case
abbrev pub written_verdict : Result ℕ Refusal → Verdict ℕ
written_verdict (Err refusal) = refusing refusal 0
written_verdict (Ok many) = accepting many

-- the answer, and the lent block before and after
pub record WrittenAnswered (day : Day) (numbers lent after : List ℕ) (written : Result ℕ Refusal) : Type 0 where
  pub answers : written ≡ written_answer (written_check day numbers (length lent)) (file_size day.counts)
  pub leaves : after ≡ accepted_or (written_check day numbers (length lent)) (sets lent 0 (file_of day (col numbers))) lent
