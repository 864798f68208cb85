-- A rate beyond its bound refuses; within it the file decides.
use Rattle.std.specs.Prelude.{Result, Err}
use mathlib.Core.List.{List}
use mathlib.Core.Path.{◌≡◌}
use Prim.Native.Nat.{ℕ, ◌≤◌, ◌<◌}
use borrow.Author.Tests.{le-leb, lt-leb}
use Rattle.units.specs.declared.Rate.{Rate}
use Rattle.units.specs.declared.refusal.Refusal.{Refusal}
use Rattle.units.specs.Bound.{most_rate}
use Rattle.units.specs.Refusals.{plain, keep, first_refusal}
use Rattle.lines.specs.Answer.{ListingAnswered, listing_check}
use Rattle.dayruns.specs.Walk.{file_check}
use Rattle.dayfile.specs.File.{walked}
use Rattle.chargelisting.specs.ChargesText.{charges_check}

module _ (rate : Rate) (file text lent : List ℕ) where
  pub rate-refused : (refusal : Refusal) → refusal ≡ plain 3 → most_rate < rate.0
      → ListingAnswered (charges_check rate file) text lent lent (Err refusal)
  unfolding charges_check listing_check first_refusal keep
  rate-refused refusal e l =
      let beyond = lt-leb rate.0 most_rate l in
      record { answers = rw (beyond, e); leaves = rw beyond }

  pub file_decides : rate.0 ≤ most_rate → {after : List ℕ} {listing : Result ℕ Refusal}
      → ListingAnswered (file_check (walked file)) text lent after listing → ListingAnswered
      (charges_check rate file) text lent after listing
  unfolding charges_check first_refusal keep
  file_decides h L = rw (le-leb rate.0 most_rate h) L
