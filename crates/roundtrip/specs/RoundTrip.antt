-- Demand 2: an accepted day file read and written again gives the same bytes; an accepted day written and read, the same day.
use Rattle.std.specs.Prelude.{◌≡◌, List, ℕ, ◌^◌, ◌≤◌, ◌<◌, length, take, Result, Ok}
use Rattle.columns.specs.Column.{col}
use Rattle.bigendian.specs.Number.{AreBytes}
use Rattle.dayformat.specs.declared.day.Day.{Day}
use Rattle.dayformat.specs.Layout.{numbers_in, file_size}
use Rattle.dayformat.specs.DayBytes.{file_of}
use Rattle.daywriter.specs.Acceptance.{sound}
use Rattle.daywriter.specs.Answer.{WrittenAnswered, written_verdict}
use Rattle.dayfile.specs.Answer.{Reads, ReadingAnswered, reading_verdict}
use Rattle.units.specs.declared.refusal.Refusal.{Refusal}

-- the writer accepts a day, whose file it is
pub record Writes (day : Day) (numbers file : List ℕ) : Type 0 where
  pub accepted : sound day numbers ≡ Ok tt
  pub file_is : file_of day (col numbers) ≡ file

-- reading and writing undo one another, for files of bytes and days whose number is a u32
pub record RoundTrips : Type 0 where
  pub file_again : (file : List ℕ) (day : Day) (numbers : List ℕ) → AreBytes file → Reads file day numbers → Writes day numbers file
  pub day_again : (day : Day) (numbers file : List ℕ) → day.head.day < 2 ^ 32 → Writes day numbers file → Reads file day numbers

-- ---- the same of the routines' answers of number 0
-- what is read out of a file, written again into a block with room, is the file
abbrev pub FileAgain : Type 0
FileAgain =
    (file lent numbers block after : List ℕ) (reading : Result Day Refusal) (day : Day) (written : Result ℕ Refusal) → AreBytes file
    → ReadingAnswered file lent numbers reading → (reading_verdict reading).number ≡ 0 → (reading_verdict reading).figures ≡ day
    → WrittenAnswered day (take (numbers_in day.counts) numbers) block after written → file_size day.counts ≤ length block
    → ((written_verdict written).number ≡ 0) × ((written_verdict written).figures ≡ length file) × (take (length file) after ≡ file)

-- what is written, read again into a block with room, is the day
abbrev pub DayAgain : Type 0
DayAgain =
    (numbers block bytes lent after : List ℕ) (day : Day) (written : Result ℕ Refusal) (size : ℕ)
    (reading : Result Day Refusal) → day.head.day < 2 ^ 32
    → WrittenAnswered day numbers block bytes written → (written_verdict written).number ≡ 0 → (written_verdict written).figures ≡ size
    → ReadingAnswered (take size bytes) lent after reading → numbers_in day.counts ≤ length lent
    → ((reading_verdict reading).number ≡ 0) × ((reading_verdict reading).figures ≡ day) × (take (numbers_in day.counts) after ≡ numbers)

-- ---- the writer accepts exactly the days that the reader can answer
abbrev pub Exactly : Type 0
Exactly =
    (day : Day) (numbers : List ℕ) → day.head.day < 2 ^ 32
    → (sound day numbers ≡ Ok tt → (file : List ℕ) × AreBytes file × Reads file day numbers)
    × ((file : List ℕ) → AreBytes file → Reads file day numbers → sound day numbers ≡ Ok tt)
