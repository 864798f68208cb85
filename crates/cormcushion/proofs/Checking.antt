-- With room for every day the reader refuses a file by its own fault alone, so its packed answer is what the file's check gives.
use Rattle.std.specs.Prelude.{Result, Ok, Err}
use mathlib.Core.Path.{◌≡◌, refl}
use mathlib.Core.List.{List}
use Prim.Native.Nat.{ℕ}
use lib.ListN.{length}
use Rattle.units.proofs.Checks.{both-accepted}
use Rattle.dayformat.specs.Layout.{numbers_in}
use Rattle.dayruns.specs.Walk.{file_check}
use Rattle.dayfile.specs.File.{walked}
use Rattle.dayfile.specs.Answer.{ReadingAnswered, reading_check}
use Rattle.dayfile.proofs.Reaching.{full_room}
use Rattle.dayfile.proofs.Told.{told}
use Rattle.listings.proofs.Listing.{file-refused}
use Rattle.cormcushion.specs.Packed.{packed_check}
use Rattle.cormcushion.specs.Answers.{of_reading}
use Rattle.dayformat.specs.declared.day.Day.{Day}
use Rattle.units.specs.declared.refusal.Refusal.{Refusal}

module _ (file lent after : List ℕ) (room : length lent ≡ full_room) where
  pub checked : (reading : Result Day Refusal) → ReadingAnswered file lent after reading
      → of_reading reading ≡ packed_check (file_check (walked file)) (numbers_in (walked file).counts)
  unfolding reading_check
  checked (Err x) R = rw (file-refused file lent after room x R)
  checked (Ok day) R =
      let is_read = told file lent after (Ok day) R refl in
      rw ((both-accepted (file_check (walked file)) _ is_read.0).0, is_read.1)
