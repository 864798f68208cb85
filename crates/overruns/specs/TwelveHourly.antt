-- 01, "Overruns of a day"; cl. 7.5: the twelve-hourly overrun of what is given: its tests, then the figure.
use Rattle.std.specs.Prelude.{List, ℕ, eqb, length, Result, Ok}
use Rattle.columns.specs.Column.{col}
use Rattle.units.specs.declared.Gigajoules.{Gigajoules}
use Rattle.units.specs.Bound.{most_hour}
use Rattle.units.specs.Refusals.{◌then◌, keep, within, Check}
use Rattle.excesses.specs.TwelveHourly.{twelve_hourly}
use Rattle.metered.specs.Singles.{mdqs_check}
use Rattle.overruns.specs.Answers.{overrun_answer}
use Rattle.units.specs.declared.Megajoules.{Megajoules}
use Rattle.units.specs.declared.refusal.Refusal.{Refusal}

-- the list's length, P, M, the hours
unfoldable pub twelve_hourly_check : Gigajoules → Gigajoules → List ℕ → Check
twelve_hourly_check p m hours =
    Ok tt then keep (eqb (length hours) 35) 9 then mdqs_check p m then within most_hour hours

abbrev pub twelve_hourly_answer : Gigajoules → Gigajoules → List ℕ → Result Megajoules Refusal
twelve_hourly_answer p m hours =
    overrun_answer (twelve_hourly_check p m hours) (record { 0 = twelve_hourly p.0 m.0 (col hours) })
