-- The round trips of the routines' answers: one of number 0 says what was accepted, and where the figures stand.
use Rattle.std.specs.Prelude.{Ok}
use mathlib.Core.Path.{◌≡◌, refl, ap, sym, ◌∙◌}
use mathlib.Core.List.{List}
use Prim.Native.Nat.{ℕ, ◌≤◌}
use native.Mathlib.Omega.{arith}
use borrow.Author.Tests.{le-leb, leb-true}
use lib.Dec.{leb}
use lib.ListN.{length, take}
use Rattle.columns.specs.Column.{col}
use Rattle.units.specs.Refusals.{keep}
use Rattle.units.proofs.Checks.{both-accepted, kept, accepts-both, accepts-kept}
use Rattle.dayformat.specs.declared.day.Day.{Day}
use Rattle.dayformat.specs.Layout.{numbers_in, file_size}
use Rattle.dayformat.specs.DayBytes.{file_of}
use Rattle.dayformat.proofs.Sizes.{length-file_of}
use Rattle.daywriter.specs.Acceptance.{sound, written_check}
use Rattle.daywriter.proofs.Accepting.{accepting}
use Rattle.daywriter.proofs.Decided.{written_decided}
use Rattle.dayfile.specs.File.{tables, walked}
use Rattle.dayfile.specs.Answer.{reading_check, Reads}
use Rattle.dayfile.proofs.Decided.{reading_decided}
use Rattle.dayfile.proofs.Told.{take-front, reads_day, taken-numbers}
use Rattle.roundtrip.specs.RoundTrip.{FileAgain, DayAgain}
use Rattle.roundtrip.proofs.RoundTrips.{round_trips}

pub file_again : FileAgain
unfolding written_check
file_again file lent numbers block after reading day written are R zero is A room =
    let taken : take (numbers_in day.counts) numbers ≡ (tables file).numbers =
    rw is at (taken-numbers file lent numbers reading R zero)
    in let W = round_trips.file_again file day (tables file).numbers are (rw is at (reads_day file lent numbers reading R zero))
    in let accepted : written_check day (take (numbers_in day.counts) numbers) (length block) ≡ (Ok tt) =
    rw taken (accepts-both W.accepted (accepts-kept 7 (le-leb _ _ room)))
    in let long : file_size day.counts ≡ length file = sym (length-file_of day (col (tables file).numbers)) ∙ ap length W.file_is
    in let written-told = (written_decided A).accepted accepted
    in (
      written-told.0,
      written-told.2 ∙ long,
      rw (A.leaves, accepted, taken, W.file_is) (take-front file block (length file) refl (omega (arith, long, room))),
    )

-- what reads back is accepted where there is room for its numbers
reads_accepted : (file : List ℕ) (day : Day) (numbers : List ℕ) (room : ℕ) → Reads file day numbers → numbers_in day.counts ≤ room
    → reading_check file room ≡ Ok tt
unfolding reading_check
reads_accepted file day numbers room R l =
    let same : (walked file).counts ≡ day.counts = ap (λ day. day.counts) R.day_is in
    accepts-both (rw R.accepted) (accepts-kept 7 (rw same (le-leb (numbers_in day.counts) room l)))

pub day_again : DayAgain
unfolding written_check
day_again numbers block bytes lent after day written size reading u32 A zero is R room =
    let accepted-day = (written_decided A).exactly zero in
    let long : size ≡ file_size day.counts = sym is ∙ ((written_decided A).accepted accepted-day).2 in
    let both = both-accepted (sound day numbers) (keep (leb (file_size day.counts) (length block)) 7) accepted-day in
    let fits = leb-true (file_size day.counts) (length block) (kept _ 7 both.1) in
    let taken : take size bytes ≡ file_of day (col numbers) =
    rw (A.leaves, accepted-day)
    (take-front (file_of day (col numbers)) block size (length-file_of day (col numbers) ∙ sym long) (omega (arith, long, fits)))
    in let D = round_trips.day_again day numbers (take size bytes) u32 (record { accepted = both.0; file_is = sym taken })
    in let accepted = reads_accepted (take size bytes) day numbers (length lent) D room
    in let read_told = (reading_decided R).accepted accepted
    in (
      read_told.0,
      read_told.2 ∙ D.day_is,
      rw (R.leaves, accepted, D.numbers_are)
          (take-front numbers lent (numbers_in day.counts) (accepting day numbers both.0).long room),
    )
