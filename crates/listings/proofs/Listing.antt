-- A file that is refused is so by its own fault, since there is room for every day; one that is read is listed.
use Rattle.std.specs.Prelude.{Result, Ok, Err}
use mathlib.Core.Path.{◌≡◌, refl, ap, sym, ◌∙◌}
use mathlib.Core.Bool.{Bool, true, false, true≢false}
use mathlib.Core.List.{List}
use Prim.Native.Nat.{ℕ, ◌≤◌}
use native.Mathlib.Omega.{arith}
use borrow.Author.Tests.{le-leb}
use lib.ListN.{length, take}
use lib.Seq.{length-take-le}
use Rattle.units.specs.declared.refusal.Refusal.{Refusal}
use Rattle.units.specs.Refusals.{Check, first_refusal}
use Rattle.units.proofs.Checks.{accepts-both, accepts-kept, both-accepted}
use Rattle.lines.specs.Answer.{ListingAnswered}
use Rattle.lines.proofs.Answers.{refused-before}
use Rattle.dayformat.specs.declared.day.Day.{Day}
use Rattle.dayformat.specs.Layout.{numbers_in}
use Rattle.dayrows.specs.Private.{Sound}
use Rattle.dayruns.specs.Walk.{file_check}
use Rattle.dayfile.specs.File.{tables, walked}
use Rattle.dayfile.specs.Answer.{ReadingAnswered, day_of, reading_check}
use Rattle.dayfile.proofs.Reaching.{full_room, numbers-most}
use Rattle.dayfile.proofs.FileAgain.{read-sound}
use Rattle.dayfile.proofs.Told.{told, none, lent-room, taken-numbers}

-- ---- a refusal
module _ (file lent after : List ℕ) (room : length lent ≡ full_room) (x : Refusal)
    (R : ReadingAnswered file lent after (Err x)) where
  abbrev is_refused : Result Day Refusal → Bool
  is_refused (Err refusal) = true
  is_refused (Ok day) = false

  abbrev refusal_or : Refusal → Result Day Refusal → Refusal
  refusal_or y (Err refusal) = refusal
  refusal_or y (Ok day) = y

  pub file-refused : file_check (walked file) ≡ Err x
  unfolding reading_check first_refusal
  file-refused = by (file_check (walked file)) refl
    where
      by : (found : Check) → file_check (walked file) ≡ found → found ≡ Err x
      by (Ok _) e =
          let accepted : reading_check file (length lent) ≡ (Ok tt) =
          accepts-both e (accepts-kept 7 (le-leb (numbers_in (walked file).counts) (length lent)
          (omega (arith, room, numbers-most file))))
          in let same : Err x ≡ Ok (day_of file) = R.answers
          ∙ rw accepted in absurd (true≢false (ap is_refused same))
      by (Err y) e =
          let same : Err x ≡ Err y = R.answers
          ∙ rw e in ap (λ refusal. Err refusal) (sym (ap (refusal_or x) same))

  pub lists-refusal : (text block : List ℕ) → ListingAnswered (file_check (walked file)) text block block (Err x)
  lists-refusal text block = refused-before text block file-refused

-- ---- a day
module _ (file lent numbers : List ℕ) (day : Day) (R : ReadingAnswered file lent numbers (Ok day)) where
  is_read : (reading_check file (length lent) ≡ Ok tt) × (day ≡ day_of file)
  is_read = told file lent numbers (Ok day) R refl

  part_is : take (numbers_in day.counts) numbers ≡ (tables file).numbers
  part_is = taken-numbers file lent numbers (Ok day) R refl

  pub part_sound : Sound day (take (numbers_in day.counts) numbers)
  part_sound = rw (part_is, is_read.1) (read-sound file (none file lent numbers (Ok day) R refl))

  -- whatever text a listing makes of a day and its numbers
  pub lists-day : (text : Day → List ℕ → List ℕ) {block after : List ℕ} {listing : Result ℕ Refusal}
      → ListingAnswered (Ok tt) (text day (take (numbers_in day.counts) numbers)) block after listing
      → ListingAnswered (file_check (walked file)) (text (day_of file) (tables file).numbers) block after listing
  unfolding reading_check
  lists-day text L =
      let accepted = (both-accepted (file_check (walked file)) _ is_read.0).0 in
      rw accepted (rw (part_is, is_read.1) at L)

  pub part-inside : length numbers ≡ length lent → numbers_in day.counts ≤ length numbers
  part-inside e = omega (arith, e, lent-room file lent numbers (Ok day) R refl)

  pub part_long : length numbers ≡ length lent → numbers_in day.counts ≡ length (take (numbers_in day.counts) numbers)
  part_long e = sym (length-take-le (numbers_in day.counts) numbers (part-inside e))
