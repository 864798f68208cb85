-- What `share_numbers` answers, and what it leaves in the three lent lists.
use Rattle.std.specs.Prelude.{◌≡◌, List, ℕ, eqb, length, Result, Ok}
use Rattle.columns.specs.Column.{col}
use Rattle.units.specs.Refusals.{◌then◌, keep, Check}
use Rattle.daytable.specs.Table.{rows}
use Rattle.daytable.specs.Acceptance.{table_check}
use Rattle.dayformat.specs.declared.day.Day.{Day}
use Rattle.dayformat.specs.Layout.{numbers_in}
use Rattle.dayformat.specs.Acceptance.{counts_check}
use Rattle.dayshares.specs.Given.{firm_given, auction_given, lower_tier_given}
use Rattle.dayshares.specs.Answer.{day_shares, shares_answer, class_afterwards}
use Rattle.numbershares.specs.DayTable.{table_of}
use Rattle.units.specs.declared.refusal.Refusal.{Refusal}
use Rattle.dayshares.specs.declared.Shares.{Shares}

-- refused: 9 not as many numbers as the counts say; 3 a count; then what the table that they make is refused for
unfoldable pub numbers_check : Day → List ℕ → ℕ → ℕ → ℕ → Check
numbers_check day numbers firm auction lower_tier =
    Ok tt
    then keep (eqb (length numbers) (numbers_in day.counts)) 9
    then counts_check day.counts
    then table_check (table_of day (col numbers)) firm auction lower_tier

-- the answer, and the three lent lists before and after
pub record NumbersAnswered (day : Day) (numbers firm auction lower_tier : List ℕ) (answered : Result Shares Refusal)
    (firm_after auction_after lower_tier_after : List ℕ) : Type 0 where
  pub answers :
      answered
      ≡ shares_answer (numbers_check day numbers (length firm) (length auction) (length lower_tier))
      (day_shares (table_of day (col numbers)))
  pub leaves_firm :
      firm_after
      ≡ class_afterwards (numbers_check day numbers (length firm) (length auction) (length lower_tier)) (rows (table_of day (col numbers)))
      (firm_given (table_of day (col numbers))) firm
  pub leaves_auction :
      auction_after
      ≡ class_afterwards (numbers_check day numbers (length firm) (length auction) (length lower_tier)) (rows (table_of day (col numbers)))
      (auction_given (table_of day (col numbers))) auction
  pub leaves_lower_tier :
      lower_tier_after
      ≡ class_afterwards (numbers_check day numbers (length firm) (length auction) (length lower_tier)) (rows (table_of day (col numbers)))
      (lower_tier_given (table_of day (col numbers))) lower_tier
