-- C-11: the account of a month. The state goes in and comes back by value with each day; a refused day changes nothing.
use Rattle.std.specs.Prelude.{ℕ, ◌+◌, get_or, set, replicate}
use Rattle.units.specs.Refusals.{accepted_or, Check}
use Rattle.month.specs.declared.account.AccountDay.{AccountDay}
use Rattle.month.specs.declared.account.Account.{Account}
use Rattle.month.specs.declared.account.Taken.{Taken}
use Rattle.month.specs.Days.{most_days, no_day, days_check, next_check}

abbrev pub no_days : Account
no_days = record { days = replicate most_days no_day; count = 0 }

abbrev pub day_at : Account → ℕ → AccountDay
day_at A row = get_or A.days row no_day

-- any account can be handed in: a faulty one is refused
abbrev pub account_check : Account → Check
account_check A = days_check A.count (day_at A)

abbrev pub taking_check : Account → AccountDay → Check
taking_check A day = next_check A.count (day_at A) day

abbrev pub with_day : Account → AccountDay → Account
with_day A day = record { days = set A.days A.count day; count = A.count + 1 }

abbrev pub take_in : Account → AccountDay → Taken
take_in A day = record { account = accepted_or (taking_check A day) (with_day A day) A; found = taking_check A day }
