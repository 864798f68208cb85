-- On a sound day a meter's shipper has no more excused than was metered in any hour: the one meter that its row of excused gas names caps
-- it. So the overruns accept what is excused.
use Rattle.std.specs.Prelude.{Ok}
use mathlib.Core.Path.{◌≡◌, refl, ap, sym, ◌∙◌}
use mathlib.Core.List.{List}
use Prim.Native.Nat.{ℕ, ◌+◌, ◌-◌, ◌≤◌, ◌<◌}
use native.Mathlib.Decide.{dec_lt}
use native.Mathlib.Omega.{arith}
use borrow.Author.Tests.{eqb-true}
use lib.ListN.{get_or-eq_default}
use Rattle.columns.specs.Column.{col}
use Rattle.columns.proofs.Firsts.{first-marked}
use Rattle.columns.proofs.Lists.{length-listed, col-listed}
use Rattle.metered.specs.Hours.{bare_hours}
use Rattle.dayformat.specs.declared.day.Day.{Day}
use Rattle.dayformat.specs.declared.form.Tag.TheVariants.{Meter, Excused}
use Rattle.dayformat.specs.Layout.{count, row_start}
use Rattle.overruns.specs.declared.day.ShipperDay.{ShipperDay}
use Rattle.overruns.specs.Excused.{excused_day_check}
use Rattle.overruns.proofs.Accepting.{excused-accepts}
use Rattle.overruns.proofs.Nothing.{check-nothing}
use Rattle.dayrows.specs.Private.{Sound}
use Rattle.dayvalues.specs.Row.{number_at}
use Rattle.dayvalues.proofs.OneKey.{capped_is}
use Rattle.dayvalues.proofs.Sounds.{row-accepts, sound-capped, sound-rises}
use Rattle.daymeters.specs.Hours.{hours_from, megajoules}
use Rattle.daymeters.specs.Excused.{excused_row}
use Rattle.chargelisting.specs.MeterDay.{shipper_day, excused_in_row, shipper_excused}
use Rattle.chargelisting.proofs.NothingExcused.{past_excuses_nothing}
use Rattle.chargelisting.proofs.OverrunsAccept.{same-figures, meter-accepts, figures-had, overruns_accept}

module _ (day : Day) (numbers : List ℕ) (S : Sound day numbers) (row : ℕ) (l : row < count day.counts Meter) where
  -- the row of the meter's shipper, where it has one
  abbrev found : ℕ
  found = excused_row day.counts (col numbers) (number_at day.counts (col numbers) Meter row 0)

  module _ (k : found < count day.counts Excused) where
    under_meter : (place : ℕ) → place < 59
        → col numbers (row_start day.counts Excused found + 1 + place) ≤ col numbers (row_start day.counts Meter row + 3 + place)
    under_meter =
        capped_is day.counts (col numbers) Excused refl (sound-rises day numbers S Meter refl)
        (row_start day.counts Excused found) row l
        (sym (eqb-true _ _ (first-marked _ (count day.counts Excused) k)))
        (sound-capped day numbers S Excused refl found k)

    -- so many hours of both rows: those excused begin two places before those metered
    hours_under : (at many : ℕ) → 1 ≤ at → at + many ≤ 60 → (hour : ℕ)
        → col (bare_hours (megajoules (hours_from day.counts (col numbers) Excused found at many))) hour
        ≤ col (bare_hours (megajoules (hours_from day.counts (col numbers) Meter row (at + 2) many))) hour
    hours_under at many some few hour =
        rw (
          same-figures (hours_from day.counts (col numbers) Excused found at many),
          same-figures (hours_from day.counts (col numbers) Meter row (at + 2) many),
        )
        (by (dec_lt hour many))
      where
        by : Dec (hour < many)
            → col (hours_from day.counts (col numbers) Excused found at many) hour
            ≤ col (hours_from day.counts (col numbers) Meter row (at + 2) many) hour
        by (yes h) =
            let less : row_start day.counts Excused found + 1 + (at - 1 + hour) ≡ row_start day.counts Excused found + (at + hour) =
            omega (arith, some) in
            let more : row_start day.counts Meter row + 3 + (at - 1 + hour) ≡ row_start day.counts Meter row + (at + 2 + hour) =
            omega (arith, some) in
            rw (col-listed many _ hour h, col-listed many _ hour h)
            (rw (less, more) at (under_meter (at - 1 + hour) (omega (arith, some, few, h))))
        by (no past) =
            let none = get_or-eq_default (hours_from day.counts (col numbers) Excused found at many) 0 {n = hour}
            (rw length-listed (omega (arith, past))) in
            omega (arith, none)

  abbrev D : ShipperDay
  D = shipper_day day.counts numbers row

  found-accepts : Dec (found < count day.counts Excused) →
      excused_day_check D (excused_in_row day.counts numbers found) ≡ Ok tt
  found-accepts (yes k) =
      let had = row-accepts day numbers S Excused refl found k in
      let metered = meter-accepts day numbers S row l in
      excused-accepts D (excused_in_row day.counts numbers found) (overruns_accept day numbers S row l)
      (rw (had, metered) (hours_under k 1 11 (omega arith) (omega arith)))
      (rw (had, metered) (hours_under k 12 24 (omega arith) (omega arith)))
      (rw (had, metered) (hours_under k 36 24 (omega arith) (omega arith)))
  found-accepts (no past) =
      ap (excused_day_check D) (past_excuses_nothing day.counts numbers found (omega (arith, past)))
      ∙ check-nothing D
      ∙ overruns_accept day numbers S row l

  pub excused_accept : excused_day_check D (shipper_excused day.counts numbers row) ≡ Ok tt
  excused_accept = rw (figures-had day numbers S row l) (rw (figures-had day numbers S row l) at (found-accepts (dec_lt _ _)))
