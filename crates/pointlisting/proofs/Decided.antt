-- The tests decide an answer of `list_points`: the reader's, then the room for its text. A point's own refusal is part of the text.
use Rattle.std.specs.Prelude.{Result}
use mathlib.Core.List.{List}
use Prim.Native.Nat.{ℕ}
use lib.ListN.{length}
use Rattle.units.specs.Verdict.{Decided}
use Rattle.lines.specs.Answer.{listing_verdict, listing_check, ListingAnswered}
use Rattle.lines.proofs.Decided.{listed_decided}
use Rattle.dayruns.specs.Walk.{file_check}
use Rattle.dayfile.specs.File.{walked}
use Rattle.dayfile.proofs.Decided.{file_numbered}
use Rattle.pointlisting.specs.PointsText.{points_listing}
use Rattle.units.specs.declared.refusal.Refusal.{Refusal}

pub points_decided : (file : List ℕ) {lent after : List ℕ} {listing : Result ℕ Refusal}
    → ListingAnswered (file_check (walked file)) (points_listing file) lent after listing
    → Decided (listing_check (file_check (walked file)) (points_listing file) (length lent)) (length (points_listing file)) 0
    (listing_verdict listing)
points_decided file = listed_decided (file_numbered file)
