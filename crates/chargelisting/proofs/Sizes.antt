-- Room for every listing of charges: each figure has as many digits as its bound at most, and there are at most 64 meters.
use Rattle.std.specs.Prelude.{Ok}
use mathlib.Core.Path.{◌≡◌, refl}
use mathlib.Core.List.{List, [], ◌∷◌}
use Prim.Native.Nat.{ℕ, ◌≤◌, ◌<◌}
use native.Mathlib.Nat.{le_refl, le_trans, mul-le-mul}
use native.Mathlib.Omega.{arith}
use borrow.Author.Tests.{leb-true}
use lib.ListN.{length, length-append}
use Rattle.columns.specs.Column.{joined}
use Rattle.units.specs.declared.Megajoules.{Megajoules}
use Rattle.units.specs.declared.Rate.{Rate}
use Rattle.units.specs.Bound.{most_chargeable, most_rate}
use Rattle.units.proofs.Checks.{both-accepted, kept}
use Rattle.tariff.specs.HalfUp.{half_up}
use Rattle.tariff.specs.Charges.{overrun_cents, overrun_charge, charge_verdict}
use Rattle.lines.specs.Line.{line, decimals}
use Rattle.lines.proofs.Sizes.{line-none, line-within, figure-within}
use Rattle.lines.proofs.Texts.{texts_most}
use Rattle.dayformat.specs.declared.day.Day.{Day}
use Rattle.dayformat.specs.declared.form.Tag.TheVariants.{Meter}
use Rattle.dayformat.specs.Format.{column_in}
use Rattle.dayformat.specs.Layout.{count}
use Rattle.overruns.specs.declared.day.ShipperDay.{ShipperDay}
use Rattle.overruns.specs.Day.{day_verdict}
use Rattle.overruns.specs.declared.day.ExcusedHours.{ExcusedHours}
use Rattle.overruns.specs.Excused.{excused_day_answer}
use Rattle.overruns.proofs.Promises.{excused-day-kept}
use Rattle.dayrows.specs.Private.{Sound}
use Rattle.dayvalues.proofs.Sounds.{sound-number}
use Rattle.daymeters.specs.Figures.{meter_figures}
use Rattle.dayruns.proofs.Ending.{faultless}
use Rattle.dayfile.specs.File.{tables, walked}
use Rattle.dayfile.specs.Answer.{day_of}
use Rattle.dayfile.proofs.FileAgain.{day-number, read-sound}
use Rattle.chargelisting.specs.MeterDay.{shipper_day, shipper_excused}
use Rattle.chargelisting.specs.ChargesText.{rate_word, head_line, charge_figures, charges_text, charges_check, charges_listing}
use Rattle.chargelisting.proofs.OverrunsAccept.{figures-had}
use Rattle.chargelisting.proofs.ChargesAccept.{charges_accept}

-- the most that an overrun can cost, in cents
abbrev pub most_cents : ℕ
most_cents = 2_880_000_000_000

pub cents-most : (rate : Rate) (overrun : Megajoules) → rate.0 ≤ most_rate → overrun.0 ≤ most_chargeable
    → (overrun_cents rate overrun).0 ≤ most_cents
unfolding half_up
cents-most rate overrun r o = omega (arith, mul-le-mul r o)

-- ten digits for the day, nine for the rate
head-most : (day : ℕ) (rate : Rate) → day ≤ 4_294_967_295 → rate.0 ≤ most_rate → length (head_line day rate) ≤ 31
head-most day rate d r =
    line-within _ _ (le_refl 3)
    (figure-within 9 day _ (omega arith) (line-within rate_word _ (le_refl 4) (figure-within 8 rate.0 _ (omega arith) line-none)))

-- five for a shipper, eleven for each overrun, thirteen for the cents
line-most : (shipper hourly twelve_hourly receipt delivery greatest cents : ℕ) → shipper ≤ 65_535 → hourly ≤ most_chargeable
    → twelve_hourly ≤ most_chargeable → receipt ≤ most_chargeable → delivery ≤ most_chargeable → greatest ≤ most_chargeable
    → cents ≤ most_cents
    → length (line (decimals (shipper ∷ hourly ∷ twelve_hourly ∷ receipt ∷ delivery ∷ greatest ∷ cents ∷ []))) ≤ 81
line-most shipper hourly twelve_hourly receipt delivery greatest cents s h t r d g c =
    figure-within 4 shipper _ (omega arith)
    (figure-within 10 hourly _ (omega arith)
    (figure-within 10 twelve_hourly _ (omega arith)
    (figure-within 10 receipt _ (omega arith)
    (figure-within 10 delivery _ (omega arith)
    (figure-within 10 greatest _ (omega arith) (figure-within 12 cents _ (omega arith) line-none))))))

module _ (rate : Rate) (kept_rate : rate.0 ≤ most_rate) where
  charge-small : (D : ShipperDay) (E : ExcusedHours)
      → (charge_verdict (overrun_charge rate (day_verdict (excused_day_answer D E)).figures.greatest)).figures.0 ≤ most_cents
  charge-small D E = rw (charges_accept rate D E kept_rate) (cents-most rate _ kept_rate (excused-day-kept D E refl).chargeable)

  module _ (day : Day) (numbers : List ℕ) (S : Sound day numbers) where
    shipper-small : (row : ℕ) → row < count day.counts Meter → (meter_figures day.counts numbers row).shipper ≤ 65_535
    unfolding column_in
    shipper-small row l = rw (figures-had day numbers S row l) (sound-number day numbers S Meter refl row l 0 (omega arith))

    abbrev row_line : ℕ → List ℕ
    row_line row = line (decimals (charge_figures rate day.counts numbers row))

    row-most : (row : ℕ) → row < count day.counts Meter → length (row_line row) ≤ 81
    row-most row l =
        let D = shipper_day day.counts numbers row in
        let E = shipper_excused day.counts numbers row in
        let K = excused-day-kept D E refl in
        line-most _ _ _ _ _ _ _ (shipper-small row l)
        (le_trans K.greatest.first K.chargeable)
        (le_trans K.greatest.second K.chargeable)
        (le_trans K.greatest.third K.chargeable)
        (le_trans K.greatest.fourth K.chargeable)
        K.chargeable
        (charge-small D E)

    day-most : day.head.day ≤ 4_294_967_295 → length (charges_text rate day numbers) ≤ 8_192
    day-most d =
        omega (
          arith,
          length-append (head_line day.head.day rate) (joined (count day.counts Meter) row_line),
          head-most day.head.day rate d kept_rate,
          texts_most row_line 81 (count day.counts Meter) row-most,
          S.few Meter,
        )

pub text-most : (rate : Rate) (file : List ℕ) → charges_check rate file ≡ Ok tt → length (charges_listing rate file) ≤ 8_192
unfolding charges_check
text-most rate file accepted =
    let both = both-accepted _ _ accepted in
    let none = faultless (walked file) both.1 in
    day-most rate (leb-true _ _ (kept _ _ both.0)) (day_of file) (tables file).numbers (read-sound file none) (day-number file none)
