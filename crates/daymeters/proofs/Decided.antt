-- The tests decide an answer for a meter or a row of excused gas: number 0 exactly where they accept.
use Rattle.std.specs.Prelude.{Result}
use mathlib.Core.Path.{◌≡◌, refl}
use mathlib.Core.List.{List}
use Prim.Native.Nat.{ℕ}
use lib.ListN.{length}
use Rattle.columns.specs.Column.{col}
use Rattle.units.specs.Verdict.{of_check, Decided}
use Rattle.units.proofs.Verdicts.{AllNumbered, ◌and◌, kept_by, checked, decided}
use Rattle.dayformat.specs.declared.form.Tag.TheVariants.{Meter, Excused}
use Rattle.dayformat.specs.declared.layout.Counts.{Counts}
use Rattle.dayvalues.specs.Row.{number_at}
use Rattle.dayvalues.specs.Shippers.{shipper_where, shipper_verdict}
use Rattle.dayvalues.proofs.Decided.{row_numbered}
use Rattle.daymeters.specs.Meter.{meter_check}
use Rattle.daymeters.specs.Figures.{figures_of, no_figures, meter_where, meter_answer, meter_verdict}
use Rattle.daymeters.specs.Hours.{delivered_check, Delivered}
use Rattle.daymeters.specs.Excused.{excused_row_check, excused_shipper}
use Rattle.units.specs.Refusals.{Check}
use Rattle.daymeters.specs.declared.figures.MeterFigures.{MeterFigures}
use Rattle.units.specs.declared.refusal.Refusal.{Refusal}

pub meter_decided : (counts : Counts) (numbers : List ℕ) (row : ℕ) {found : Check} → found ≡ meter_check counts numbers row
    → Decided (meter_check counts numbers row) tt tt (of_check found)
meter_decided counts numbers row = checked (row_numbered counts numbers row Meter)

pub figures_decided : (counts : Counts) (numbers : List ℕ) (row : ℕ) {meter : Result MeterFigures Refusal}
    → meter ≡ meter_answer counts numbers row
    → Decided (meter_check counts numbers row) (figures_of counts (col numbers) row) no_figures (meter_verdict meter)
figures_decided counts numbers row = decided meter_where meter_verdict refl (λ refusal. refl) (row_numbered counts numbers row Meter)

delivered_numbered : (counts : Counts) (numbers : List ℕ) (row room : ℕ) → AllNumbered (delivered_check counts numbers row room)
unfolding delivered_check
delivered_numbered counts numbers row room = row_numbered counts numbers row Meter and kept_by _ 7 tt tt

pub delivered_decided : {counts : Counts} {numbers : List ℕ} {row : ℕ} {lent : List ℕ} {found : Check} {after : List ℕ}
    → Delivered counts numbers row lent found after
    → Decided (delivered_check counts numbers row (length lent)) tt tt (of_check found)
delivered_decided {counts} {numbers} {row} {lent} D = checked (delivered_numbered counts numbers row (length lent)) D.answers

-- ---- excused gas
module _ (counts : Counts) (numbers : List ℕ) (row : ℕ) where
  pub excused_row_decided : {found : Check} → found ≡ excused_row_check counts numbers row
      → Decided (excused_row_check counts numbers row) tt tt (of_check found)
  excused_row_decided = checked (row_numbered counts numbers row Excused)

  pub excused_shipper_decided : {answer : Result ℕ Refusal} → answer ≡ excused_shipper counts numbers row
      → Decided (excused_row_check counts numbers row) (number_at counts (col numbers) Excused row 0) 0 (shipper_verdict answer)
  excused_shipper_decided = decided shipper_where shipper_verdict refl (λ refusal. refl) (row_numbered counts numbers row Excused)
