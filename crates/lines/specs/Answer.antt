-- A listing's answer: how many bytes, with the text at the front of the lent block; or the refusal, with the block as it was.
use Rattle.std.specs.Prelude.{◌≡◌, List, ℕ, leb, length, Result, Ok, Err}
use Rattle.std.proofs.lemmas.List.Edits.{sets}
use Rattle.units.specs.Refusals.{accepted_or, ◌then◌, keep, Check}
use Rattle.units.specs.Verdict.{Verdict, accepting, refusing}
use Rattle.units.specs.declared.refusal.Refusal.{Refusal}

abbrev pub listing_answer : Check → ℕ → Result ℕ Refusal
listing_answer (Err refusal) many = Err refusal
listing_answer (Ok _) many = Ok many

-- 01's number, place and figure of each case: the size of the text
abbrev pub listing_verdict : Result ℕ Refusal → Verdict ℕ
listing_verdict (Ok many) = accepting many
listing_verdict (Err refusal) = refusing refusal 0

-- 7 exactly when a text that the tests before accept is longer than the room
unfoldable pub listing_check : Check → List ℕ → ℕ → Check
listing_check tests text room = tests then keep (leb (length text) room) 7

-- what the tests of its input find and its text; the lent block before and after, and the answer
pub record ListingAnswered (tests : Check) (text lent after : List ℕ) (listing : Result ℕ Refusal) : Type 0 where
  pub answers : listing ≡ listing_answer (listing_check tests text (length lent)) (length text)
  pub leaves : after ≡ accepted_or (listing_check tests text (length lent)) (sets lent 0 text) lent
