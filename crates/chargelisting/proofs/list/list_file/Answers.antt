-- A refused file is refused by its own fault; a day that is read is sound, and listed.
use Prim.Native.Nat.{ℕ}
use lib.ListN.{length-replicate}
use Rattle.std.proofs.lemmas.Result.{err_from_is_err_and}
use Rattle.dayfile.proofs.Reaching.{full_room}
use Rattle.listings.proofs.Listing.{lists-refusal, part_sound, part-inside, part_long, lists-day}
use Rattle.chargelisting.specs.ChargesText.{charges_text}
use Rattle.chargelisting.proofs.list.list_file.Goals as goal

pub slice_bounds-numbers-end : goal.slice_bounds-numbers-end
slice_bounds-numbers-end c =
    rw c.numbers_of-count.ensures.0
    (part-inside c.args.file.now _ _ c.in_ok-day.day
    (rw c.in_ok-day.was at c.read_day.ensures) c.read_day.auto.lent)

pub slice_bounds-list_day-end : goal.slice_bounds-list_day-end
slice_bounds-list_day-end c =
    rw c.numbers_of-count.ensures.0
    (part_long c.args.file.now _ _ c.in_ok-day.day
    (rw c.in_ok-day.was at c.read_day.ensures) c.read_day.auto.lent)

pub list_day-requires : goal.list_day-requires
list_day-requires c =
    rw c.numbers_of-count.ensures.0
    (part_sound c.args.file.now _ _ c.in_ok-day.day
    (rw c.in_ok-day.was at c.read_day.ensures))

pub returns-in_err-day : goal.returns-in_err-day
returns-in_err-day c =
    let p = err_from_is_err_and c.from_residual.result c.from_residual.ensures.1 in
    rw (p.1, p.2)
    (lists-refusal _ _ _ (length-replicate {A = ℕ} full_room 0) _ (rw c.in_err-day.was at c.read_day.ensures) _ _)

pub returns : goal.returns
returns c =
    lists-day c.args.file.now _ _ c.in_ok-day.day
    (rw c.in_ok-day.was at c.read_day.ensures) (charges_text c.args.rate)
    (rw c.numbers_of-count.ensures.0 at c.list_day.ensures)
