-- The listing of expected overrun charges. DAY number, RATE; then for each tag 5 shipper its four overruns, the greatest, its charge.
use Rattle.std.specs.Prelude.{List, [], ◌∷◌, ◌++◌, ℕ, leb}
use Rattle.columns.specs.Column.{joined}
use Rattle.units.specs.declared.Rate.{Rate}
use Rattle.units.specs.Bound.{most_rate}
use Rattle.units.specs.Refusals.{◌then◌, keep, Check}
use Rattle.text.specs.Text.{decimal}
use Rattle.tariff.specs.Charges.{overrun_charge, charge_verdict}
use Rattle.lines.specs.Line.{line, decimals, day_word}
use Rattle.dayformat.specs.declared.day.Day.{Day}
use Rattle.dayformat.specs.declared.form.Tag.TheVariants.{Meter}
use Rattle.dayformat.specs.declared.layout.Counts.{Counts}
use Rattle.dayformat.specs.Layout.{count}
use Rattle.overruns.specs.declared.day.Overruns.{Overruns}
use Rattle.overruns.specs.Day.{day_verdict}
use Rattle.overruns.specs.Excused.{excused_day_answer}
use Rattle.daymeters.specs.Figures.{meter_figures}
use Rattle.dayruns.specs.Walk.{file_check}
use Rattle.dayfile.specs.File.{tables, walked}
use Rattle.dayfile.specs.Answer.{day_of}
use Rattle.chargelisting.specs.MeterDay.{shipper_day, shipper_excused}

-- RATE
abbrev pub rate_word : List ℕ
rate_word = 82 ∷ 65 ∷ 84 ∷ 69 ∷ []

abbrev pub head_line : ℕ → Rate → List ℕ
head_line day rate = line (day_word ∷ decimal day ∷ rate_word ∷ decimal rate.0 ∷ [])

-- the figures of a line: overruns in MJ, in 01's order; cents at the rate
abbrev pub line_figures : Rate → ℕ → Overruns → List ℕ
line_figures rate shipper over =
    shipper
    ∷ over.hourly.0
    ∷ over.twelve_hourly.0
    ∷ over.daily_receipt.0
    ∷ over.daily_delivery.0
    ∷ over.greatest.0
    ∷ (charge_verdict (overrun_charge rate over.greatest)).figures.0
    ∷ []

-- ---- of a row of the meter table
abbrev pub overruns_of : Counts → List ℕ → ℕ → Overruns
overruns_of counts numbers row =
    (day_verdict (excused_day_answer (shipper_day counts numbers row) (shipper_excused counts numbers row))).figures

abbrev pub charge_figures : Rate → Counts → List ℕ → ℕ → List ℕ
charge_figures rate counts numbers row =
    line_figures rate (meter_figures counts numbers row).shipper (overruns_of counts numbers row)

-- a line for each of the first so many rows
abbrev pub meter_lines : Rate → Counts → List ℕ → ℕ → List ℕ
meter_lines rate counts numbers many = joined many (λ row. line (decimals (charge_figures rate counts numbers row)))

abbrev pub charges_text : Rate → Day → List ℕ → List ℕ
charges_text rate day numbers = head_line day.head.day rate ++ meter_lines rate day.counts numbers (count day.counts Meter)

-- ---- of a file: 3 for a rate beyond its bound, before the file is looked at
unfoldable pub charges_check : Rate → List ℕ → Check
charges_check rate file = keep (leb rate.0 most_rate) 3 then file_check (walked file)

abbrev pub charges_listing : Rate → List ℕ → List ℕ
charges_listing rate file = charges_text rate (day_of file) (tables file).numbers
