-- What the reader accepts, a shipper's overruns accept.
use Rattle.std.specs.Prelude.{Ok}
use mathlib.Core.Path.{◌≡◌, refl, ap}
use mathlib.Core.List.{List, [], ◌∷◌}
use Prim.Native.Nat.{ℕ, ◌+◌, ◌≤◌, ◌<◌}
use native.Mathlib.Omega.{arith}
use borrow.Author.Tests.{le-leb}
use lib.Dec.{leb}
use Rattle.columns.specs.Column.{col, listed}
use Rattle.columns.proofs.Lists.{length-listed, col-listed}
use Rattle.units.specs.Bound.{most_gigajoules, most_hour, most_backhaul}
use Rattle.units.specs.Refusals.{within, keep}
use Rattle.units.proofs.Checks.{accepts-both, accepts-kept, accepts-within}
use Rattle.metered.specs.Singles.{mdqs_check, side_check, sides_check}
use Rattle.metered.specs.Hours.{bare_hours, hours_check}
use Rattle.dayformat.specs.declared.day.Day.{Day}
use Rattle.dayformat.specs.declared.body.Column.{Column}
use Rattle.dayformat.specs.declared.form.Tag.TheVariants.{Meter}
use Rattle.dayformat.specs.Format.{◌of◌, name, gigajoules, hour, backhaul, body, column_in}
use Rattle.dayformat.specs.Layout.{count}
use Rattle.dayformat.proofs.Bodies.{among}
use Rattle.overruns.specs.Day.{day_check}
use Rattle.dayrows.specs.Private.{Sound}
use Rattle.dayvalues.proofs.Sounds.{row-accepts, sound-number}
use Rattle.daymeters.specs.Meter.{meter_check, meter_at}
use Rattle.daymeters.specs.Figures.{figures_of, meter_where, meter_verdict, meter_figures}
use Rattle.daymeters.specs.Hours.{hours_from, megajoules}
use Rattle.chargelisting.specs.MeterDay.{shipper_day}

-- for callers: megajoules have their figures
pub same-figures : (list : List ℕ) → bare_hours (megajoules list) ≡ list
same-figures [] = refl
same-figures (x ∷ list) = ap (λ rest. x ∷ rest) (same-figures list)

module _ (day : Day) (numbers : List ℕ) (S : Sound day numbers) (row : ℕ) (l : row < count day.counts Meter) where
  abbrev figure : ℕ → ℕ
  figure place = meter_at day.counts (col numbers) row place

  -- the row may be had
  pub meter-accepts : meter_check day.counts numbers row ≡ Ok tt
  meter-accepts = row-accepts day numbers S Meter refl row l

  pub figures-had : meter_figures day.counts numbers row ≡ figures_of day.counts (col numbers) row
  figures-had = ap (λ found. (meter_verdict (meter_where found (figures_of day.counts (col numbers) row))).figures) meter-accepts

  -- ---- every number is within the bound of its kind
  most : (place : ℕ) → place < 68 → {kind : Column} → column_in (body Meter) place ≡ kind → figure place ≤ kind.high
  most place few e = rw e at (sound-number day numbers S Meter refl row l place few)

  -- P and M; a side's schedules; the backhaul metered; the hours of both days
  of_mdqs : (place : ℕ) → 1 ≤ place → place < 3 → figure place ≤ most_gigajoules
  of_mdqs place some few = most place (omega (arith, few)) (among (1 of name ∷ []) (2 of gigajoules) _ place some few)

  of_schedules : (place : ℕ) → 62 ≤ place → place < 66 → figure place ≤ most_gigajoules
  of_schedules place some few =
      most place (omega (arith, few))
      (among (1 of name ∷ 2 of gigajoules ∷ 59 of hour ∷ []) (4 of gigajoules) _ place some few)

  of_backhaul : (place : ℕ) → 66 ≤ place → place < 68 → figure place ≤ most_backhaul
  of_backhaul place some few =
      most place few
      (among (1 of name ∷ 2 of gigajoules ∷ 59 of hour ∷ 4 of gigajoules ∷ []) (2 of backhaul) _ place some few)

  of_hours : (place : ℕ) → 3 ≤ place → place < 62 → figure place ≤ most_hour
  of_hours place some few =
      most place (omega (arith, few)) (among (1 of name ∷ 2 of gigajoules ∷ []) (59 of hour) _ place some few)

  hours-within : (at many : ℕ) → 3 ≤ at → at + many ≤ 62
      → within most_hour (bare_hours (megajoules (hours_from day.counts (col numbers) Meter row at many))) ≡ Ok tt
  hours-within at many some few =
      rw same-figures
      (accepts-within most_hour (listed many (λ hour. figure (at + hour)))
      (λ place k.
      let inside : place < many = rw length-listed at k in
      rw (col-listed many (λ hour. figure (at + hour)) place inside)
      (of_hours (at + place) (omega (arith, some)) (omega (arith, few, inside)))))

  -- ---- the day's overruns
  pub overruns_accept : day_check (shipper_day day.counts numbers row) ≡ Ok tt
  unfolding day_check mdqs_check side_check sides_check hours_check
  overruns_accept =
      rw (figures-had, meter-accepts)
      (accepts-both
      (accepts-both
      (accepts-both
      (accepts-both (accepts-both refl (gigajoules-kept (of_mdqs 1 (omega arith) (omega arith))))
      (gigajoules-kept (of_mdqs 2 (omega arith) (omega arith))))
      (accepts-both
      (accepts-both
      (accepts-both (accepts-both refl (gigajoules-kept (of_schedules 62 (omega arith) (omega arith))))
      (gigajoules-kept (of_schedules 64 (omega arith) (omega arith))))
      (accepts-kept 3 (le-leb _ _ (of_backhaul 66 (omega arith) (omega arith)))))
      (accepts-both
      (accepts-both (accepts-both refl (gigajoules-kept (of_schedules 63 (omega arith) (omega arith))))
      (gigajoules-kept (of_schedules 65 (omega arith) (omega arith))))
      (accepts-kept 3 (le-leb _ _ (of_backhaul 67 (omega arith) (omega arith)))))))
      (hours-within 3 11 (omega arith) (omega arith)))
      (accepts-both (accepts-both refl (hours-within 14 24 (omega arith) (omega arith))) (hours-within 38 24 (omega arith) (omega arith))))
    where
      gigajoules-kept : {n : ℕ} → n ≤ most_gigajoules → keep (leb n most_gigajoules) 3 ≡ Ok tt
      gigajoules-kept h = accepts-kept 3 (le-leb _ _ h)
