-- C-11: the statement. A line per day, its number and the seven figures; then TOTAL and their sums.
use Rattle.std.specs.Prelude.{◌≡◌, List, [], ◌∷◌, ◌++◌, ℕ, length}
use Rattle.columns.specs.Column.{joined}
use Rattle.units.specs.Refusals.{accepted_or}
use Rattle.lines.specs.Line.{line, decimals}
use Rattle.lines.specs.Answer.{listing_check, ListingAnswered}
use Rattle.month.specs.declared.figures.Figures.{Figures}
use Rattle.month.specs.declared.account.AccountDay.{AccountDay}
use Rattle.month.specs.declared.account.Account.{Account}
use Rattle.month.specs.declared.account.Closed.{Closed}
use Rattle.month.specs.Figures.{figure_list}
use Rattle.month.specs.Account.{no_days, day_at, account_check}
use Rattle.month.specs.Total.{sums}

-- TOTAL
abbrev pub total_word : List ℕ
total_word = 84 ∷ 79 ∷ 84 ∷ 65 ∷ 76 ∷ []

abbrev pub statement_line : AccountDay → List ℕ
statement_line day = line (decimals (day.number ∷ figure_list day.figures))

abbrev pub total_line : Figures → List ℕ
total_line figures = line (total_word ∷ decimals (figure_list figures))

abbrev pub statement_lines : ℕ → (ℕ → AccountDay) → List ℕ
statement_lines n days = joined n (λ row. statement_line (days row))

-- of the first n days
abbrev pub statement_of : ℕ → (ℕ → AccountDay) → List ℕ
statement_of n days = statement_lines n days ++ total_line (sums n days)

abbrev pub statement : Account → List ℕ
statement A = statement_of A.count (day_at A)

-- no statement is longer
abbrev pub most_statement : ℕ
most_statement = 2_916

-- a faulty account is refused, then a block that is too short; where the text stands in the block, the account is empty afterwards
pub record ClosingAnswered (A : Account) (lent after : List ℕ) (closed : Closed) : Type 0 where
  pub lists : ListingAnswered (account_check A) (statement A) lent after closed.listing
  pub empties : closed.account ≡ accepted_or (listing_check (account_check A) (statement A) (length lent)) no_days A
