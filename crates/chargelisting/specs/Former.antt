-- C-14: the listing of before, when nothing could be excused: 01's overruns of each meter.
use Rattle.std.specs.Prelude.{List, ◌++◌, ℕ}
use Rattle.columns.specs.Column.{joined}
use Rattle.units.specs.declared.Rate.{Rate}
use Rattle.lines.specs.Line.{line, decimals}
use Rattle.dayformat.specs.declared.day.Day.{Day}
use Rattle.dayformat.specs.declared.form.Tag.TheVariants.{Meter}
use Rattle.dayformat.specs.declared.layout.Counts.{Counts}
use Rattle.dayformat.specs.Layout.{count}
use Rattle.overruns.specs.declared.day.Overruns.{Overruns}
use Rattle.overruns.specs.Day.{day_answer, day_verdict}
use Rattle.daymeters.specs.Figures.{meter_figures}
use Rattle.chargelisting.specs.MeterDay.{shipper_day}
use Rattle.chargelisting.specs.ChargesText.{head_line, line_figures}

abbrev pub former_overruns : Counts → List ℕ → ℕ → Overruns
former_overruns counts numbers row = (day_verdict (day_answer (shipper_day counts numbers row))).figures

abbrev pub former_figures : Rate → Counts → List ℕ → ℕ → List ℕ
former_figures rate counts numbers row =
    line_figures rate (meter_figures counts numbers row).shipper (former_overruns counts numbers row)

abbrev pub former_text : Rate → Day → List ℕ → List ℕ
former_text rate day numbers =
    head_line day.head.day rate
    ++ joined (count day.counts Meter) (λ row. line (decimals (former_figures rate day.counts numbers row)))
