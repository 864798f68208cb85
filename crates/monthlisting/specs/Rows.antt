-- C-11, for callers in other languages: days as rows of eight numbers in one list, handed in one after another to an empty account.
use Rattle.std.specs.Prelude.{List, ℕ, zero, suc, ◌+◌, ◌*◌, ◌/◌, ◌%◌, leb, eqb, length, Ok}
use Rattle.columns.specs.Column.{col}
use Rattle.units.specs.Refusals.{◌then◌, keep, placed, Check}
use Rattle.units.specs.Each.{each}
use Rattle.month.specs.declared.account.AccountDay.{AccountDay}
use Rattle.month.specs.declared.account.Account.{Account}
use Rattle.month.specs.Figures.{figures_by}
use Rattle.month.specs.Days.{most_day_number}
use Rattle.month.specs.Account.{no_days, taking_check, take_in}
use Rattle.month.specs.Statement.{statement}

-- a day's number, then its seven figures
abbrev pub row_long : ℕ
row_long = 8

abbrev pub row_number : List ℕ → ℕ → ℕ
row_number numbers row = col numbers (row * row_long)

abbrev pub row_day : List ℕ → ℕ → AccountDay
row_day numbers row =
    record { number = row_number numbers row; figures = figures_by (λ place. col numbers (row * row_long + suc place)) }

-- the account after the first n rows
unfoldable pub account_after : List ℕ → ℕ → Account
account_after numbers zero = no_days
account_after numbers (suc row) = (take_in (account_after numbers row) (row_day numbers row)).account

-- 3 for a number beyond 32 bits, then what the account before it answers
abbrev pub in_turn : List ℕ → Account → ℕ → Check
in_turn numbers A row = keep (leb (row_number numbers row) most_day_number) 3 then taking_check A (row_day numbers row)

-- a day is refused by its number at its row
abbrev pub month_row_check : List ℕ → ℕ → Check
month_row_check numbers row = placed row (in_turn numbers (account_after numbers row) row)

abbrev pub days_in : List ℕ → ℕ
days_in numbers = length numbers / row_long

-- 9 unless there are whole rows; then the first day refused refuses the whole
unfoldable pub month_check : List ℕ → Check
month_check numbers =
    Ok tt then keep (eqb (length numbers % row_long) 0) 9 then each (days_in numbers) (month_row_check numbers)

abbrev pub month_listing : List ℕ → List ℕ
month_listing numbers = statement (account_after numbers (days_in numbers))
