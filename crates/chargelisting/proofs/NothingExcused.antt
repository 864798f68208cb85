-- C-14: a shipper without a tag 9 field has the overruns of before, and a day or a file without any the text of before.
use Rattle.std.specs.Prelude.{Ok}
use mathlib.Core.Path.{◌≡◌, ap, ◌∙◌, fun_ext}
use mathlib.Core.List.{List, ◌++◌}
use Prim.Native.Nat.{ℕ, ◌≤◌}
use native.Mathlib.Omega.{arith}
use Rattle.columns.specs.Column.{col, joined}
use Rattle.units.specs.declared.Rate.{Rate}
use Rattle.lines.specs.Line.{line, decimals}
use Rattle.dayformat.specs.declared.day.Day.{Day}
use Rattle.dayformat.specs.declared.form.Tag.TheVariants.{Meter, Excused}
use Rattle.dayformat.specs.declared.layout.Counts.{Counts}
use Rattle.dayformat.specs.Layout.{count}
use Rattle.overruns.specs.Day.{day_verdict}
use Rattle.overruns.specs.Excused.{nothing_excused, excused_day_answer}
use Rattle.overruns.proofs.Nothing.{day-nothing}
use Rattle.daymeters.specs.Figures.{meter_figures}
use Rattle.daymeters.specs.Excused.{excused_row}
use Rattle.daymeters.proofs.NoField.{yesterday-past, hours-past}
use Rattle.dayfile.specs.File.{tables, walked}
use Rattle.dayfile.specs.Answer.{day_of}
use Rattle.dayfile.specs.Excused.{NoneExcused}
use Rattle.dayfile.proofs.Excusing.{as_before}
use Rattle.chargelisting.specs.MeterDay.{shipper_day, excused_in_row}
use Rattle.chargelisting.specs.ChargesText.{head_line, line_figures, overruns_of, charge_figures, charges_text, charges_listing}
use Rattle.chargelisting.specs.Former.{former_overruns, former_figures, former_text}

pub past_excuses_nothing : (counts : Counts) (numbers : List ℕ) (row : ℕ) → count counts Excused ≤ row
    → excused_in_row counts numbers row ≡ nothing_excused
past_excuses_nothing counts numbers row past = rw (yesterday-past counts numbers row past, hours-past counts numbers row past)

module _ (counts : Counts) (numbers : List ℕ) (row : ℕ) where
  pub overruns-former : count counts Excused ≤ excused_row counts (col numbers) (meter_figures counts numbers row).shipper
      → overruns_of counts numbers row ≡ former_overruns counts numbers row
  overruns-former past =
      ap (λ excused. (day_verdict (excused_day_answer (shipper_day counts numbers row) excused)).figures)
      (past_excuses_nothing counts numbers _ past)
      ∙ ap (λ over. (day_verdict over).figures) (day-nothing (shipper_day counts numbers row))

  pub figures-former : (rate : Rate) → count counts Excused ≡ 0
      → charge_figures rate counts numbers row ≡ former_figures rate counts numbers row
  figures-former rate none =
      ap (line_figures rate (meter_figures counts numbers row).shipper) (overruns-former (omega (arith, none)))

pub text-former : (rate : Rate) (day : Day) (numbers : List ℕ) → count day.counts Excused ≡ 0
    → charges_text rate day numbers ≡ former_text rate day numbers
text-former rate day numbers none =
    ap (λ figures. head_line day.head.day rate ++ joined (count day.counts Meter) (λ row. line (decimals (figures row))))
    (fun_ext (λ row. figures-former day.counts numbers row rate none))

pub listing-former : (rate : Rate) (file : List ℕ) → NoneExcused file → (walked file).found ≡ Ok tt
    → charges_listing rate file ≡ former_text rate (day_of file) (tables file).numbers
listing-former rate file none accepted = text-former rate (day_of file) (tables file).numbers ((as_before file none).none accepted)
