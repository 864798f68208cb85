-- C-11: what an account keeps, whatever days are handed in one after another: which are accepted, and that the total is theirs alone.
use Rattle.std.specs.Prelude.{◌≡◌, List, [], ◌∷◌, ◌++◌, ℕ, ltb, length, get_or, take, Ok}
use Rattle.units.specs.Refusals.{accepted_or, ◌then◌, keep, Check}
use Rattle.month.specs.declared.account.AccountDay.{AccountDay}
use Rattle.month.specs.declared.account.Account.{Account}
use Rattle.month.specs.Figures.{figures_check}
use Rattle.month.specs.Days.{most_days, no_day, later}
use Rattle.month.specs.Account.{no_days, take_in}
use Rattle.month.specs.Total.{sums, total_up}
use Rattle.month.specs.Statement.{statement_of, statement}

-- ---- by the days alone
abbrev pub in_row : List AccountDay → ℕ → AccountDay
in_row days row = get_or days row no_day

-- what a day is answered after those accepted: a 32nd, or faulty figures, 3; not later than the last, 5
unfoldable pub finding : List AccountDay → AccountDay → Check
finding accepted day =
    keep (ltb (length accepted) most_days) 3
    then figures_check day.figures
    then later (in_row accepted) (length accepted) day.number

abbrev pub joining : List AccountDay → AccountDay → List AccountDay
joining accepted day = accepted_or (finding accepted day) (accepted ++ (day ∷ [])) accepted

-- those accepted after further days, and what each of these is answered
unfoldable pub accepted_after : List AccountDay → List AccountDay → List AccountDay
accepted_after accepted [] = accepted
accepted_after accepted (day ∷ days) = accepted_after (joining accepted day) days

unfoldable pub findings_after : List AccountDay → List AccountDay → List Check
findings_after accepted [] = []
findings_after accepted (day ∷ days) = finding accepted day ∷ findings_after (joining accepted day) days

-- ---- by the account
unfoldable pub handed_in : Account → List AccountDay → Account
handed_in A [] = A
handed_in A (day ∷ days) = handed_in (take_in A day).account days

unfoldable pub answers : Account → List AccountDay → List Check
answers A [] = []
answers A (day ∷ days) = (take_in A day).found ∷ answers (take_in A day).account days

-- ---- from the empty account they agree
module _ (days : List AccountDay) where
  abbrev pub accepted : List AccountDay
  accepted = accepted_after [] days

  abbrev pub account : Account
  account = handed_in no_days days

  pub record MonthKept : Type 0 where
    pub found : answers no_days days ≡ findings_after [] days
    pub holds : take account.count account.days ≡ accepted
    pub totals : (total_up account).total ≡ Ok (sums (length accepted) (in_row accepted))
    pub prints : statement account ≡ statement_of (length accepted) (in_row accepted)
