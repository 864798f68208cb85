-- Once the days' levels are known, every line computes.
use Rattle.columns.specs.Column.{listed}
use Rattle.columns.specs.Sum.{sum}
use Rattle.columns.specs.First.{first_from}
use Rattle.sharing.specs.Chain.{after}
use Rattle.units.specs.Refusals.{keep, clear, first_refusal}
use Rattle.excesses.specs.TwelveHourly.{period_limit}
use Rattle.tariff.specs.HalfUp.{half_up}
use Rattle.tariff.specs.Charges.{overrun_check, variation_check}
use Rattle.tariff.specs.Escalation.{escalation_check}
use Rattle.pointshares.specs.Share.{share, stranded}
use Rattle.pointshares.specs.Answer.{hour_check}
use Rattle.metered.specs.Hours.{hours_check}
use Rattle.metered.specs.Singles.{mdqs_check, side_check, sides_check}
use Rattle.daytable.specs.Acceptance.{bounds_check, lengths_check, table_check}
use Rattle.usegas.specs.Fuel.{fuel_check}
use Rattle.overruns.specs.Day.{day_check}
use Rattle.dayshares.specs.Firm.{given_one, given_two, given_firm}
use Rattle.dayshares.specs.Class.{class_level, class_given}
use Rattle.figures.specs.Line.{defined, said}
use Rattle.figures.specs.Table.{Figures}
use Rattle.figures.proofs.Levels.{
  first_one,
  first_two,
  first_three,
  second-one,
  second-two,
  second-three,
  third-one,
  third-two,
  third-three,
  third-auction,
}

pub figures : Figures
unfolding defined said listed sum first_from first_refusal keep clear
    lengths_check bounds_check table_check given_one given_two given_firm after class_level class_given
    hour_check stranded share fuel_check
    period_limit mdqs_check side_check sides_check hours_check day_check half_up overrun_check variation_check escalation_check
figures = rw (first_three, first_two, first_one, second-three, second-two, second-one, third-three, third-two, third-one, third-auction)
