-- 01, "Overruns of a day"; cl. 7.3: the hourly overrun of what is given: its tests, then the figure.
use Rattle.std.specs.Prelude.{List, leb, Result, Ok}
use Rattle.columns.specs.Column.{col}
use Rattle.units.specs.declared.Gigajoules.{Gigajoules}
use Rattle.units.specs.declared.Megajoules.{Megajoules}
use Rattle.units.specs.Bound.{most_gigajoules}
use Rattle.units.specs.Refusals.{◌then◌, keep, Check}
use Rattle.excesses.specs.Hourly.{hourly}
use Rattle.metered.specs.Hours.{delivered, received, hours_check}
use Rattle.overruns.specs.Answers.{overrun_answer}
use Rattle.units.specs.declared.refusal.Refusal.{Refusal}

-- M, then the hours
unfoldable pub hourly_check : Gigajoules → List (List Megajoules) → Check
hourly_check m hours = Ok tt then keep (leb m.0 most_gigajoules) 3 then hours_check hours

abbrev pub hourly_answer : Gigajoules → List (List Megajoules) → Result Megajoules Refusal
hourly_answer m hours =
    overrun_answer (hourly_check m hours) (record { 0 = hourly m.0 (col (delivered hours)) (col (received hours)) })
