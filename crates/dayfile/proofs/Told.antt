-- A day that is answered with number 0 was accepted; its numbers stand at the front of the lent block.
use Rattle.std.specs.Prelude.{Result, Ok}
use mathlib.Core.Path.{◌≡◌, refl, ap, sym, ◌∙◌}
use mathlib.Core.List.{List}
use Prim.Native.Nat.{ℕ, ◌+◌, ◌≤◌}
use native.Mathlib.Omega.{arith}
use borrow.Author.Tests.{leb-true}
use lib.Dec.{leb}
use lib.ListN.{length, take, drop}
use lib.Seq.{sets, sets-eq, take_at}
use Rattle.units.specs.Refusals.{keep}
use Rattle.units.proofs.Checks.{both-accepted, kept}
use Rattle.dayformat.specs.declared.day.Day.{Day}
use Rattle.dayformat.specs.Layout.{numbers_in}
use Rattle.dayruns.specs.Walk.{file_check}
use Rattle.dayruns.proofs.Ending.{faultless}
use Rattle.dayfile.specs.File.{tables, walked}
use Rattle.dayfile.specs.Answer.{Reads, ReadingAnswered, day_of, reading_check, reading_verdict}
use Rattle.dayfile.proofs.Decided.{reading_decided}
use Rattle.dayfile.proofs.FileAgain.{read-sound}
use Rattle.units.specs.declared.refusal.Refusal.{Refusal}

-- figures stored at the front of a list with room are what is taken from its front
pub take-front : (figures list : List ℕ) (n : ℕ) → length figures ≡ n → n ≤ length list → take n (sets list 0 figures) ≡ figures
take-front figures list n e l =
    ap (take n) (sets-eq figures list 0 (omega (arith, e, l))) ∙ take_at figures (drop (0 + length figures) list) n e

module _ (file lent numbers : List ℕ) (reading : Result Day Refusal) (R : ReadingAnswered file lent numbers reading)
    (zero : (reading_verdict reading).number ≡ 0) where
  abbrev day : Day
  day = (reading_verdict reading).figures

  pub told : (reading_check file (length lent) ≡ Ok tt) × (day ≡ day_of file)
  told = let accepted = (reading_decided R).exactly zero in (accepted, ((reading_decided R).accepted accepted).2)

  both : (file_check (walked file) ≡ Ok tt) × (keep (leb (numbers_in (walked file).counts) (length lent)) 7 ≡ Ok tt)
  unfolding reading_check
  both = both-accepted _ _ told.0

  lent-numbers : numbers ≡ sets lent 0 (tables file).numbers
  lent-numbers = R.leaves ∙ rw told.0

  pub lent-room : numbers_in day.counts ≤ length lent
  lent-room = rw told.1 (leb-true _ _ (kept _ _ both.1))

  -- the file has no fault
  pub none : (walked file).found ≡ Ok tt
  none = faultless (walked file) both.0

  pub taken-numbers : take (numbers_in day.counts) numbers ≡ (tables file).numbers
  taken-numbers =
      let long : length (tables file).numbers ≡ numbers_in day.counts = rw told.1 (read-sound file none).long in
      rw lent-numbers (take-front (tables file).numbers lent (numbers_in day.counts) long lent-room)

  pub reads_day : Reads file day (tables file).numbers
  reads_day = record { accepted = none; day_is = sym told.1; numbers_are = refl }
