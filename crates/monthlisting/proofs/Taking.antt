-- A row's own test of its number, then those of its day.
use Rattle.std.specs.Prelude.{Err}
use mathlib.Core.Path.{◌≡◌, ap, ◌∙◌}
use mathlib.Core.List.{List}
use Prim.Native.Nat.{ℕ, ◌≤◌, ◌<◌}
use borrow.Author.Tests.{le-leb, lt-leb}
use Rattle.units.specs.declared.refusal.Refusal.{Refusal}
use Rattle.units.specs.Refusals.{plain, keep, first_refusal}
use Rattle.month.specs.declared.account.AccountDay.{AccountDay}
use Rattle.month.specs.declared.account.Account.{Account}
use Rattle.month.specs.declared.account.Taken.{Taken}
use Rattle.month.specs.Days.{most_day_number}
use Rattle.month.specs.Account.{take_in}
use Rattle.monthlisting.specs.Rows.{row_number, row_day}
use Rattle.monthlisting.specs.Private.{RowTaken}

module _ (A : Account) (numbers : List ℕ) (row : ℕ) where
  pub beyond : {refusal : Refusal} → refusal ≡ plain 3 → most_day_number < row_number numbers row
      → RowTaken A numbers row (record { account = A; found = Err refusal })
  unfolding first_refusal keep
  beyond e l = record { found = rw (lt-leb _ _ l, e); account = λ none. cc }

  pub within : {day : AccountDay} {taken : Taken} → row_number numbers row ≤ most_day_number → day ≡ row_day numbers row
      → taken ≡ take_in A day → RowTaken A numbers row taken
  unfolding first_refusal keep
  within l is e =
      let same = e ∙ ap (take_in A) is in
      record { found = rw (le-leb _ _ l) (ap (λ taken. taken.found) same); account = λ accepted. ap (λ taken. taken.account) same }
