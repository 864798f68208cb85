-- The tests decide a listing's answer: number 0 exactly where they accept and its text fits, zero for its size where they refuse.
use Rattle.std.specs.Prelude.{Result, Ok}
use mathlib.Core.Path.{refl}
use mathlib.Core.List.{List}
use Prim.Native.Nat.{ℕ}
use lib.ListN.{length}
use Rattle.units.specs.declared.refusal.Refusal.{Refusal}
use Rattle.units.specs.Verdict.{Decided}
use Rattle.units.proofs.Places.{PlacedTo, ◌then_if◌, plainly}
use Rattle.units.proofs.Verdicts.{AllNumbered, none, ◌and◌, kept_by, decided}
use Rattle.lines.specs.Line.{refused}
use Rattle.lines.specs.Answer.{listing_answer, listing_verdict, listing_check, ListingAnswered}
use Rattle.units.specs.Refusals.{Check}

listed_numbered : {tests : Check} (text : List ℕ) (room : ℕ) → AllNumbered tests → AllNumbered (listing_check tests text room)
unfolding listing_check
listed_numbered text room N = N and kept_by _ 7 tt tt

-- for callers: of any listing whose input is tested by 01's numbers
pub listed_decided : {tests : Check} {text lent after : List ℕ} {listing : Result ℕ Refusal} → AllNumbered tests
    → ListingAnswered tests text lent after listing
    → Decided (listing_check tests text (length lent)) (length text) 0 (listing_verdict listing)
listed_decided {text = text} {lent} N L =
    decided listing_answer listing_verdict refl (λ refusal. refl) (listed_numbered text (length lent) N) L.answers

-- a refusal's own line is refused by its block alone
pub line_decided : (refusal : Refusal) {lent after : List ℕ} {listing : Result ℕ Refusal}
    → ListingAnswered (Ok tt) (refused refusal) lent after listing
    → Decided (listing_check (Ok tt) (refused refusal) (length lent)) (length (refused refusal)) 0 (listing_verdict listing)
line_decided refusal = listed_decided none

-- for callers: 7 has no place
pub listed-placed : {most : ℕ} {tests : Check} (text : List ℕ) (room : ℕ) → PlacedTo most tests
    → PlacedTo most (listing_check tests text room)
unfolding listing_check
listed-placed text room P = P then_if plainly _ 7
