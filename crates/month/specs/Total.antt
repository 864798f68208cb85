-- C-11: the total equals the sum over the days accepted, worked out from those days.
use Rattle.std.specs.Prelude.{ℕ, Result, Ok, Err}
use Rattle.columns.specs.Sum.{sum}
use Rattle.units.specs.Verdict.{Verdict, accepting, refusing}
use Rattle.month.specs.declared.figures.Figures.{Figures}
use Rattle.month.specs.declared.account.AccountDay.{AccountDay}
use Rattle.month.specs.declared.account.Account.{Account}
use Rattle.month.specs.declared.account.Totalled.{Totalled}
use Rattle.month.specs.Figures.{figure, figures_by, seven_zeros}
use Rattle.month.specs.Account.{day_at, account_check}
use Rattle.units.specs.Refusals.{Check}
use Rattle.units.specs.declared.refusal.Refusal.{Refusal}

-- each of the seven, summed over the first n days
abbrev pub sums : ℕ → (ℕ → AccountDay) → Figures
sums n days = figures_by (λ place. sum n (λ row. figure (days row).figures place))

abbrev pub account_sums : Account → Figures
account_sums A = sums A.count (day_at A)

abbrev pub total_answer : Check → Figures → Result Figures Refusal
total_answer (Ok _) figures = Ok figures
total_answer (Err refusal) figures = Err refusal

-- 01's number, place and figures of each case
abbrev pub total_verdict : Result Figures Refusal → Verdict Figures
total_verdict (Ok figures) = accepting figures
total_verdict (Err refusal) = refusing refusal seven_zeros

abbrev pub total_up : Account → Totalled
total_up A = record { account = A; total = total_answer (account_check A) (account_sums A) }
