-- The tests decide an answer of `list_month`: 9, then the first day refused at its row, one of the first 32, then the room for its text.
use Rattle.std.specs.Prelude.{Result, Ok}
use mathlib.Core.Path.{◌≡◌}
use mathlib.Core.List.{List}
use Prim.Native.Nat.{ℕ, ◌≤◌}
use native.Mathlib.Omega.{arith}
use lib.ListN.{length}
use Rattle.units.specs.Each.{each}
use Rattle.units.specs.Verdict.{Decided}
use Rattle.units.proofs.Places.{PlacedTo, nowhere, ◌then_if◌, plainly, placed-there}
use Rattle.units.proofs.Verdicts.{AllNumbered, refuses_each, none, ◌and◌, kept_by, placed_by, each_by}
use Rattle.lines.specs.Answer.{listing_verdict, listing_check, ListingAnswered}
use Rattle.lines.proofs.Decided.{listed_decided}
use Rattle.month.specs.Days.{most_days}
use Rattle.month.specs.Account.{day_at}
use Rattle.month.proofs.Accepting.{days-kept}
use Rattle.month.proofs.Decided.{next_numbered}
use Rattle.monthlisting.specs.Rows.{row_day, account_after, in_turn, month_row_check, days_in, month_check, month_listing}
use Rattle.monthlisting.proofs.Handing.{after-rows}
use Rattle.units.specs.declared.refusal.Refusal.{Refusal}

rows_numbered : (numbers : List ℕ) → AllNumbered (month_check numbers)
unfolding month_check
rows_numbered numbers =
    none
    and kept_by _ 9 tt tt
    and each_by (month_row_check numbers) (days_in numbers)
    (λ row. placed_by row (kept_by _ 3 tt tt and next_numbered _ (day_at (account_after numbers row)) (row_day numbers row)))

pub month_decided : (numbers : List ℕ) {lent after : List ℕ} {listing : Result ℕ Refusal}
    → ListingAnswered (month_check numbers) (month_listing numbers) lent after listing
    → Decided (listing_check (month_check numbers) (month_listing numbers) (length lent))
    (length (month_listing numbers)) 0 (listing_verdict listing)
month_decided numbers = listed_decided (rows_numbered numbers)

-- a day is refused at the latest as the 32nd
module _ {most : ℕ} (h : most_days ≤ most) where
  row-placed : (numbers : List ℕ) (row : ℕ) → each row (month_row_check numbers) ≡ Ok tt → PlacedTo most (month_row_check numbers row)
  row-placed numbers row accepted =
      let S = after-rows numbers row accepted in
      let A = account_after numbers row in
      placed-there row (in_turn numbers A row) (omega (arith, S.many, (days-kept _ (day_at A) S.accepted).few, h))

  pub month_placed : (numbers : List ℕ) → PlacedTo most (month_check numbers)
  unfolding month_check
  month_placed numbers =
      nowhere then_if plainly _ 9 then_if (λ accepted. refuses_each _ _ (days_in numbers) (λ row l. row-placed numbers row))
