-- Worked figures: two days of a month, two that it refuses, a month without days, and the longest statement.
use Rattle.std.specs.Prelude.{Ok, Err}
use mathlib.Core.Path.{◌≡◌, refl}
use mathlib.Core.List.{List, [], ◌∷◌}
use Prim.Native.Nat.{ℕ, ◌+◌}
use lib.ListN.{length}
use Rattle.columns.specs.Column.{col, joined}
use Rattle.columns.specs.Sum.{sum}
use Rattle.units.specs.Refusals.{plain, keep, first_refusal}
use Rattle.units.specs.Each.{each}
use Rattle.text.specs.Text.{digits, decimal}
use Rattle.lines.specs.Line.{line}
use Rattle.month.specs.declared.account.AccountDay.{AccountDay}
use Rattle.month.specs.declared.account.Account.{Account}
use Rattle.month.specs.Figures.{figures_by, figure_bounds, figures_check}
use Rattle.month.specs.Days.{later, days_check, next_check}
use Rattle.month.specs.Account.{no_days, take_in}
use Rattle.month.specs.Total.{account_sums}
use Rattle.month.specs.Statement.{total_line, statement, statement_of, most_statement}
use Rattle.month.specs.Promise.{handed_in}

-- a day's number and its seven figures
abbrev day_of : ℕ → List ℕ → AccountDay
day_of number figures = record { number = number; figures = figures_by (col figures) }

abbrev two_days : Account
two_days =
    handed_in no_days
    (day_of 1 (0 ∷ 288_000 ∷ 0 ∷ 0 ∷ 288_000 ∷ 408 ∷ 0 ∷ []) ∷ day_of 3 (5 ∷ 0 ∷ 7 ∷ 2 ∷ 7 ∷ 0 ∷ 362_710 ∷ []) ∷ [])

-- TOTAL 5 288000 7 2 288007 408 362710
pub two_days-total :
    total_line (account_sums two_days)
    ≡ 84 ∷ 79 ∷ 84 ∷ 65 ∷ 76 ∷ 32 ∷ 53 ∷ 32 ∷ 50 ∷ 56 ∷ 56 ∷ 48 ∷ 48 ∷ 48 ∷ 32 ∷ 55 ∷ 32 ∷ 50 ∷ 32 ∷ 50 ∷ 56 ∷ 56 ∷ 48 ∷ 48 ∷ 55 ∷ 32
    ∷ 52 ∷ 48 ∷ 56 ∷ 32 ∷ 51 ∷ 54 ∷ 50 ∷ 55 ∷ 49 ∷ 48 ∷ 10 ∷ []
unfolding handed_in next_check figures_check days_check each later first_refusal keep sum line digits decimal
two_days-total = refl

-- day 3 again with zeros
pub again : (take_in two_days (day_of 3 [])).found ≡ Err (plain 5)
unfolding handed_in next_check figures_check days_check each later first_refusal keep
again = refl

-- with a delivery overrun of 1 and chargeable 0: 3 and not 5
pub again-faulty : (take_in two_days (day_of 3 (0 ∷ 0 ∷ 0 ∷ 1 ∷ []))).found ≡ Err (plain 3)
unfolding handed_in next_check figures_check days_check each later first_refusal keep
again-faulty = refl

-- TOTAL 0 0 0 0 0 0 0
pub no_days-stated :
    statement no_days
    ≡ 84 ∷ 79 ∷ 84 ∷ 65 ∷ 76 ∷ 32 ∷ 48 ∷ 32 ∷ 48 ∷ 32 ∷ 48 ∷ 32 ∷ 48 ∷ 32 ∷ 48 ∷ 32 ∷ 48 ∷ 32 ∷ 48 ∷ 10 ∷ []
unfolding joined sum line digits decimal
no_days-stated = refl

-- every figure at its bound, on 31 days whose numbers have ten digits
abbrev longest_day : ℕ → AccountDay
longest_day row = day_of (4_000_000_000 + row) figure_bounds

pub longest_accepted : days_check 31 longest_day ≡ Ok tt
unfolding figures_check days_check each later first_refusal keep
longest_accepted = refl

pub longest_stated : length (statement_of 31 longest_day) ≡ most_statement
unfolding joined sum line digits decimal
longest_stated = refl
