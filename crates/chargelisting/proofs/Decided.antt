-- The tests decide an answer of `list_charges`: 3 for the rate, then the reader's, then the room for its text.
use Rattle.std.specs.Prelude.{Result}
use mathlib.Core.Path.{refl}
use mathlib.Core.List.{List}
use Prim.Native.Nat.{ℕ}
use lib.ListN.{length}
use Rattle.units.specs.declared.Rate.{Rate}
use Rattle.units.specs.Verdict.{Decided}
use Rattle.units.proofs.Places.{PlacedTo, ◌then_if◌, plainly}
use Rattle.units.proofs.Verdicts.{AllNumbered, ◌and◌, kept_by}
use Rattle.lines.specs.Answer.{listing_verdict, listing_check, ListingAnswered}
use Rattle.lines.proofs.Decided.{listed_decided}
use Rattle.dayfile.proofs.Reaching.{most_file}
use Rattle.dayfile.proofs.Decided.{file_numbered, file-placed}
use Rattle.chargelisting.specs.ChargesText.{charges_check, charges_listing}
use Rattle.units.specs.declared.refusal.Refusal.{Refusal}

charges_numbered : (rate : Rate) (file : List ℕ) → AllNumbered (charges_check rate file)
unfolding charges_check
charges_numbered rate file = kept_by _ 3 tt tt and file_numbered file

pub charges_decided : (rate : Rate) (file : List ℕ) {lent after : List ℕ} {listing : Result ℕ Refusal}
    → ListingAnswered (charges_check rate file) (charges_listing rate file) lent after listing
    → Decided (listing_check (charges_check rate file) (charges_listing rate file) (length lent))
    (length (charges_listing rate file)) 0 (listing_verdict listing)
charges_decided rate file = listed_decided (charges_numbered rate file)

pub charges_placed : (rate : Rate) (file : List ℕ) → PlacedTo most_file (charges_check rate file)
unfolding charges_check
charges_placed rate file = plainly _ 3 refl then_if (λ e. file-placed file)
