-- C-11: the tests of a month's days, all at place 0: first 3, then 5.
use Rattle.std.specs.Prelude.{ℕ, zero, suc, leb, ltb, Ok}
use Rattle.units.specs.Refusals.{◌then◌, keep, Check}
use Rattle.units.specs.Each.{each}
use Rattle.month.specs.declared.account.AccountDay.{AccountDay}
use Rattle.month.specs.Figures.{seven_zeros, figures_check}

-- a month has at most so many days
abbrev pub most_days : ℕ
most_days = 31

-- and a day's number is any of 32 bits
abbrev pub most_day_number : ℕ
most_day_number = 4_294_967_295

abbrev pub no_day : AccountDay
no_day = record { number = 0; figures = seven_zeros }

-- a day after the first n, not later than the last of them, is 5
unfoldable pub later : (ℕ → AccountDay) → ℕ → ℕ → Check
later days zero number = Ok tt
later days (suc before) number = keep (ltb (days before).number number) 5

-- the first n days: their count and their figures, then that their numbers rise
unfoldable pub days_check : ℕ → (ℕ → AccountDay) → Check
days_check n days =
    keep (leb n most_days) 3
    then each n (λ row. figures_check (days row).figures)
    then each n (λ row. later days row (days row).number)

-- one day more: a 32nd is 3, and so are its figures' faults and those of the days before; then 5
unfoldable pub next_check : ℕ → (ℕ → AccountDay) → AccountDay → Check
next_check n days day =
    keep (ltb n most_days) 3
    then figures_check day.figures
    then days_check n days
    then later days n day.number
