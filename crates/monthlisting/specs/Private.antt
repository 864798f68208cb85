-- What the private routines of this crate ask, and what they do.
use Rattle.std.specs.Prelude.{◌≡◌, List, ℕ, Ok}
use Rattle.units.specs.Each.{each}
use Rattle.month.specs.declared.account.Account.{Account}
use Rattle.month.specs.declared.account.Taken.{Taken}
use Rattle.month.specs.Account.{take_in}
use Rattle.monthlisting.specs.Rows.{row_day, account_after, in_turn, month_row_check, days_in}

-- a row's day taken in
pub record RowTaken (A : Account) (numbers : List ℕ) (row : ℕ) (taken : Taken) : Type 0 where
  pub found : taken.found ≡ in_turn numbers A row
  pub account : taken.found ≡ Ok tt → taken.account ≡ (take_in A (row_day numbers row)).account

-- all rows handed in
pub record HandedIn (numbers : List ℕ) (taken : Taken) : Type 0 where
  pub found : taken.found ≡ each (days_in numbers) (month_row_check numbers)
  pub account : taken.found ≡ Ok tt → taken.account ≡ account_after numbers (days_in numbers)
