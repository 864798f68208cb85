-- A meter's figures and hours are those of its shipper's day.
use mathlib.Core.Path.{◌≡◌, refl, ap, ◌∙◌}
use Rattle.std.specs.Prelude.{Result, Ok, Err}
use Rattle.std.specs.Result.{result_unwrap_or}
use Rattle.units.specs.declared.refusal.Refusal.{Refusal}
use Rattle.overruns.specs.declared.day.Overruns.{Overruns}
use Rattle.overruns.specs.Day.{with_greatest, day_verdict}
use Rattle.chargelisting.proofs.charges.overruns_of.Goals as goal

-- in place of a refusal stand its zeros
figures-are : (day : Result Overruns Refusal) → result_unwrap_or day (with_greatest 0 0 0 0) ≡ (day_verdict day).figures
figures-are (Ok over) = refl
figures-are (Err refusal) = refl

pub returns : goal.returns
returns c =
    let day =
    rw (
      c.excused_yesterday.ensures,
      c.excused_hours.ensures,
      c.excused_row-excused_row.ensures,
      c.figures_of-figures.ensures,
      c.meter_yesterday.ensures,
      c.meter_hours.ensures,
    ) at
    c.overruns_of_day.ensures
    in
    c.unwrap_or.ensures ∙ figures-are c.overruns_of_day.result ∙ ap (λ day. (day_verdict day).figures) day
