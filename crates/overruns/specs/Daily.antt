-- 01, "Overruns of a day"; cl. 7.4: the daily receipt and the daily delivery overrun.
use Rattle.std.specs.Prelude.{List, ℕ, ◌+◌, ◌-◌, ◌*◌, Result, Ok, Err}
use Rattle.columns.specs.Column.{col}
use Rattle.columns.specs.Sum.{sum}
use Rattle.units.specs.declared.Megajoules.{Megajoules}
use Rattle.units.specs.Refusals.{◌then◌, Check}
use Rattle.units.specs.Verdict.{Verdict, accepting, refusing}
use Rattle.metered.specs.declared.Side.{Side}
use Rattle.metered.specs.Singles.{sides_check}
use Rattle.metered.specs.Hours.{delivered, received, hours_check}
use Rattle.overruns.specs.declared.daily.Daily.{Daily}
use Rattle.units.specs.declared.refusal.Refusal.{Refusal}

-- gas metered over the day, backhaul included, less 1,000 × (forward + backhaul schedule), never below zero
abbrev pub daily : (ℕ → ℕ) → Side → ℕ
daily metered side = sum 24 metered + side.metered.0 - 1000 * (side.forward.0 + side.backhaul.0)

-- the most that it can be
abbrev pub most_daily : ℕ
most_daily = 4_800_000_000

-- both sides
abbrev pub both_daily : List ℕ → List ℕ → Side → Side → Daily
both_daily delivered received receipt delivery =
    record { receipt = record { 0 = daily (col received) receipt }; delivery = record { 0 = daily (col delivered) delivery } }

-- single figures, then the hours
unfoldable pub daily_check : List (List Megajoules) → Side → Side → Check
daily_check hours receipt delivery = sides_check receipt delivery then hours_check hours

abbrev pub daily_where : Check → Daily → Result Daily Refusal
daily_where (Ok _) over = Ok over
daily_where (Err x) over = Err x

abbrev pub daily_answer : List (List Megajoules) → Side → Side → Result Daily Refusal
daily_answer hours receipt delivery =
    daily_where (daily_check hours receipt delivery) (both_daily (delivered hours) (received hours) receipt delivery)

-- 01's number, place and figures of each case
abbrev pub daily_verdict : Result Daily Refusal → Verdict Daily
daily_verdict (Ok over) = accepting over
daily_verdict (Err x) = refusing x (record { receipt = record { 0 = 0 }; delivery = record { 0 = 0 } })
